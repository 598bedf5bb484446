-- What the laws of knowledge and views read of a run: incarnations, crash vectors, views, rejoins and begins.
use Rattle.std.specs.Prelude.{◌≡◌, ℕ, ◌≤◌, List, length, IsTrue}
use Rattle.nz_math.specs.Count.{is_in, IsChoice}
use Rattle.nz_math.specs.Quorum.{group_size, slow_quorum}

-- What is read of a run of records R. A replica is a number, and a moment is the run up to there.
pub record Notions (R : Type 0) : Type 1 where
  -- How many replicas may be out of order, and who leads a view.
  pub f : ℕ
  pub leader : ℕ → ℕ
  -- A replica's incarnation, a place of its crash vector, its view, and the last view in which it was Normal.
  pub inc : ℕ → List R → ℕ
  pub place : ℕ → List R → ℕ → ℕ
  pub view : ℕ → List R → ℕ
  pub last : ℕ → List R → ℕ
  -- It is neither down nor rejoining; it is in normal operation.
  pub IsUp : ℕ → List R → Type 0
  pub IsNormal : ℕ → List R → Type 0
  -- The newest record completes the replica's rejoin; that rejoin used an answer of another replica, sent at this
  -- moment.
  pub Completes : ℕ → List R → Type 0
  pub Uses : ℕ → List R → ℕ → List R → Type 0
  -- The newest record begins the view; this replica is one of the begin's members, and reported at this moment.
  pub Begins : ℕ → List R → Type 0
  pub Reports : ℕ → List R → ℕ → List R → Type 0

-- The replica is Normal in the view.
pub record IsIn {R : Type 0} (N : Notions R) (x v : ℕ) (K : List R) : Type 0 where
  pub normal : N.IsNormal x K
  pub view : N.view x K ≡ v

-- At least f + 1 different replicas of the 2f + 1, each with a moment that has the property.
pub record IsHeldByMany {R : Type 0} (f : ℕ) (Holds : ℕ → List R → Type 0) : Type 0 where
  pub members : List ℕ
  pub choice : IsChoice (group_size f) members
  pub enough : slow_quorum f ≤ length members
  pub each : (y : ℕ) → IsTrue (is_in members y) → (T : List R) × Holds y T
