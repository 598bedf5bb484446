-- Knowledge and views: what holds of incarnations, rejoins and begins anywhere in a run.
use Rattle.std.specs.Prelude.{◌≡◌, ℕ, ◌<◌, ◌≤◌, List, ◌∷◌, ◌⊎◌}
use Rattle.nz_base.specs.Moments.{At}
use Rattle.nz_laws_cv.specs.Notions.{Notions, IsIn}
use Rattle.nz_laws_cv.specs.Ground.{IsCompletion}

module _ {R : Type 0} (N : Notions R) where
  -- The replica's state at K grew from its completion at C.
  pub record ComesFrom (J : List R) (x : ℕ) (K C : List R) : Type 0 where
    pub completes : N.Completes x C
    pub at : At K C
    pub inc : N.inc x C ≡ N.inc x K
    pub counter : 1 ≤ N.place x C x
    pub own : N.place x C x ≡ N.place x K x
    pub places : (k : ℕ) → N.place x C k ≤ N.place x K k
    pub view : N.view x C ≤ N.view x K
    pub last : N.view x C ≤ N.last x K

  -- What holds of the knowledge and the views of a run.
  pub record HasViews (J : List R) : Type 0 where
    -- A later incarnation has a greater own counter.
    pub rise : (x : ℕ) (S K : List R) → At J S → At J K → N.IsUp x S → N.IsUp x K → N.inc x S < N.inc x K → N.place x S x < N.place x K x
    -- Who answered a rejoin knows its counter also in later incarnations.
    pub know : (m x : ℕ) (C T K : List R) → N.Completes m C → N.Uses m C x T → At J K → N.IsUp x K → N.inc x T < N.inc x K → N.place m C m ≤ N.place x K m
    -- A member of a begin that rejoins after its report ends in that view or a later one, in whatever order they come.
    pub member : (x w : ℕ) (C B Q : List R) → N.Completes x C → N.Begins w B → N.Reports w B x Q → N.inc x Q < N.inc x C → w ≤ N.view x C
    -- So does who was Normal in the view.
    pub was_normal : (x w : ℕ) (K C : List R) → At J K → IsIn N x w K → N.Completes x C → N.inc x K < N.inc x C → w ≤ N.view x C
    -- A view is led in one incarnation: view 0 in incarnation 0, and any other in the one in which it began.
    pub one_leader : (v : ℕ) (S K : List R) → At J S → At J K → IsIn N (N.leader v) v S → IsIn N (N.leader v) v K → N.inc (N.leader v) S ≡ N.inc (N.leader v) K
    pub leader_of_zero : (K : List R) → At J K → IsIn N (N.leader 0) 0 K → N.inc (N.leader 0) K ≡ 0
    pub leader_is_one : (v : ℕ) (B K : List R) → N.Begins v B → At J K → IsIn N (N.leader v) v K → N.inc (N.leader v) K ≡ N.inc (N.leader v) B
    -- A record at which the leader of v is Normal in v begins v, or finds it so.
    pub begins_once : (v : ℕ) (r : R) (K : List R) → At J (r ∷ K) → IsIn N (N.leader v) v (r ∷ K)
        → N.Begins v (r ∷ K) ⊎ (IsIn N (N.leader v) v K × (N.inc (N.leader v) K ≡ N.inc (N.leader v) (r ∷ K)))
    -- Each view begins once.
    pub once : (v : ℕ) (B C : List R) → N.Begins v B → N.Begins v C → B ≡ C
    -- Who is up in a later incarnation completed in it.
    pub completed : (x : ℕ) (K : List R) → At J K → N.IsUp x K → 0 < N.inc x K → (C : List R) × ComesFrom J x K C
    pub completion : (x : ℕ) (C : List R) → N.Completes x C → IsCompletion N J x C
