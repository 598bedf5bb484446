-- The premises of knowledge and views: facts of single states, of messages, and of one replica at two moments of one
-- run.
use Rattle.std.specs.Prelude.{◌≡◌, ℕ, ◌<◌, ◌≤◌, List, [], ◌∷◌, ◌⊎◌, length}
use Rattle.nz_base.specs.Moments.{At}
use Rattle.nz_laws_cv.specs.Notions.{Notions, IsIn, IsHeldByMany}

module _ {R : Type 0} (N : Notions R) where
  -- ---- one replica at two moments

  -- From K to L the replica's view, last view and counters did not fall, and its own counter stayed.
  pub record IsLater (x : ℕ) (K L : List R) : Type 0 where
    pub view : N.view x K ≤ N.view x L
    pub last : N.last x K ≤ N.last x L
    pub places : (k : ℕ) → N.place x K k ≤ N.place x L k
    pub own : N.place x K x ≡ N.place x L x

  -- The replica was up before the newest record, in the same incarnation.
  pub record StaysUp (x : ℕ) (K L : List R) : Type 0 where
    pub up : N.IsUp x K
    pub same : N.inc x K ≡ N.inc x L

  -- ---- messages, each as its sender's state at the moment at which it was sent

  -- At T the replica y told x's present incarnation its vector, for the counter that x claimed.
  pub record TellsVector (x : ℕ) (K : List R) (y : ℕ) (T : List R) : Type 0 where
    pub at : At K T
    -- Who tells is up.
    pub up : N.IsUp y T
    -- It tells after the restart that began x's incarnation.
    pub inside : N.inc x T ≡ N.inc x K
    -- The claimed counter is above each that was told.
    pub below : N.place y T x < N.place x K x

  -- At T the replica y gave an answer that the completion C of m used.
  pub record IsUsed (J : List R) (m : ℕ) (C : List R) (y : ℕ) (T : List R) : Type 0 where
    pub at : At J T
    -- It was collected before the completing record.
    pub before : length T < length C
    -- Who answers is up.
    pub up : N.IsUp y T
    -- It answers after the restart that began m's incarnation.
    pub inside : N.inc m T ≡ N.inc m C
    -- It knows the own counter of that incarnation.
    pub counter : N.place m C m ≤ N.place y T m
    -- No answer has a greater view, and each was merged.
    pub view : N.view y T ≤ N.view m C
    pub merged : (k : ℕ) → ¬ (m ≡ k) → N.place y T k ≤ N.place m C k

  -- At C the replica m completes its rejoin.
  pub record IsCompletion (J : List R) (m : ℕ) (C : List R) : Type 0 where
    pub at : At J C
    -- It is Normal then, in a view that it does not lead.
    pub normal : N.IsNormal m C
    pub follows : ¬ (N.leader (N.view m C) ≡ m)
    -- It used f + 1 answers of different senders.
    pub answers : IsHeldByMany N.f (N.Uses m C)
    pub answer : (y : ℕ) (T : List R) → N.Uses m C y T → IsUsed J m C y T
    -- The answers are crash-consistent: none knows a greater counter of a sender than that sender's own answer has.
    pub consistent : (y x : ℕ) (S T : List R) → N.Uses m C y S → N.Uses m C x T → N.place y S x ≤ N.place x T x

  -- At Q the member y of the begin B of view w sent the report that B used.
  pub record IsReport (J : List R) (w : ℕ) (B : List R) (y : ℕ) (Q : List R) : Type 0 where
    pub at : At B Q
    -- Who reports is up, in view w.
    pub up : N.IsUp y Q
    pub view : N.view y Q ≡ w
    -- The report is no stray, and its vector was merged.
    pub fresh : N.place (N.leader w) B y ≤ N.place y Q y
    pub merged : (k : ℕ) → ¬ (N.leader w ≡ k) → N.place y Q k ≤ N.place (N.leader w) B k
    -- The leader's own report is the begin.
    pub own : N.leader w ≡ y → Q ≡ B

  -- At B the view w, which is not 0, begins.
  pub record IsBegin (J : List R) (w : ℕ) (B : List R) : Type 0 where
    pub at : At J B
    -- Its leader is Normal in it, and was not one record before.
    pub leads : IsIn N (N.leader w) w B
    pub turns : (r : R) (K : List R) → B ≡ r ∷ K → ¬ IsIn N (N.leader w) w K
    -- It used reports of f + 1 different members.
    pub members : IsHeldByMany N.f (N.Reports w B)
    pub report : (y : ℕ) (Q : List R) → N.Reports w B y Q → IsReport J w B y Q

  -- ---- the premises

  -- Of a replica's status, incarnations and views, with no word on the vectors of others.
  pub record HasModes (J : List R) : Type 0 where
    -- Who is Normal is up.
    pub normal_up : (x : ℕ) (K : List R) → N.IsNormal x K → N.IsUp x K
    -- Incarnations are numbered from 0 on, and never fall.
    pub first : (x : ℕ) → N.inc x [] ≡ 0
    pub grows : (x : ℕ) (K L : List R) → At J L → At L K → N.inc x K ≤ N.inc x L
    -- Who is up after a record was up before it, or completes by it.
    pub stays : (x : ℕ) (r : R) (K : List R) → At J (r ∷ K) → N.IsUp x (r ∷ K) → StaysUp x K (r ∷ K) ⊎ N.Completes x (r ∷ K)
    -- Who is Normal has its view as last view; who is up and not Normal has a lower one.
    pub mode : (x : ℕ) (K : List R) → At J K → N.IsNormal x K → N.last x K ≡ N.view x K
    pub changing : (x : ℕ) (K : List R) → At J K → N.IsUp x K → N.IsNormal x K ⊎ (N.last x K < N.view x K)
    -- Within an incarnation nothing falls while the replica is up.
    pub later : (x : ℕ) (K L : List R) → At J L → At L K → N.inc x K ≡ N.inc x L → N.IsUp x K → N.IsUp x L → IsLater x K L
    -- A view above 0 in which a replica is Normal has begun.
    pub begun : (x v : ℕ) (K : List R) → At J K → IsIn N x v K → 0 < v → (B : List R) × N.Begins v B × At K B

  -- What knowledge and views rest on.
  pub record Ground (J : List R) : Type 0 where
    pub modes : HasModes J
    -- The own counter is 0 in incarnation 0.
    pub own_zero : (x : ℕ) (K : List R) → At J K → N.IsUp x K → N.inc x K ≡ 0 → N.place x K x ≡ 0
    -- In a later incarnation it was claimed above what f + 1 replicas told.
    pub claimed : (x : ℕ) (K : List R) → At J K → N.IsUp x K → 0 < N.inc x K → IsHeldByMany N.f (TellsVector x K)
    -- Completions and begins are what their names say.
    pub completion : (m : ℕ) (C : List R) → N.Completes m C → IsCompletion J m C
    pub begin : (w : ℕ) (B : List R) → N.Begins w B → IsBegin J w B
