-- What follows of the states of a run, of its records, and of its pairs of moments, before support is looked at.
use Rattle.std.specs.Prelude.{◌≡◌, ℕ, ◌≤◌, ◌<◌, ◌⊎◌, List, [], ◌∷◌, length, take, Some, None, IsTrue, IsFalse}
use Rattle.nz_base.specs.declared.key.Key.{Key}
use Rattle.nz_base.specs.Cluster.{leader_of}
use Rattle.nz_base.specs.Moments.{At}
use Rattle.nz_base.specs.Prefixes.{IsPrefix, Comparable}
use Rattle.nz_laws_commit.specs.States.{Normal, Down, IsUp, Machine, place}
use Rattle.nz_laws_commit.specs.Supports.{keys_at, view_leader, IsNormal, IsUpIn}
use Rattle.nz_laws_commit.specs.Premises.{ViewPremises}
use Rattle.nz_laws_commit.specs.Machines.{GroupStates, lead_of, start_of, machine_of}

module _ {R : Type 0} (M : Machine R) where
  -- what does not fall, of one replica from one moment to a later one of the same incarnation
  pub record HasGrown (y : ℕ) (K L : List R) : Type 0 where
    pub view : (M.state y K).view ≤ (M.state y L).view
    pub last : (M.state y K).last ≤ (M.state y L).last
    pub vector : (m : ℕ) → place (M.state y K).vector m ≤ place (M.state y L).vector m
    pub own : place (M.state y K).vector y ≡ place (M.state y L).vector y
    pub synced : (M.state y K).last ≡ (M.state y L).last → (M.state y K).synced ≤ (M.state y L).synced
    pub entries : (M.state y K).last ≡ (M.state y L).last → take (M.state y K).synced (keys_at M y K) ≡ take (M.state y K).synced (keys_at M y L)

  -- of single states, with the log of the view's leader
  pub record StateLaws (J : List R) : Type 0 where
    pub base : ViewPremises M J
    pub open base use *
    -- who is Normal has its view as last view
    pub modes : (y : ℕ) (K : List R) → At J K → (M.state y K).status ≡ Normal → (M.state y K).last ≡ (M.state y K).view
    -- the last view of who is up has begun
    pub begun : (y v : ℕ) (K : List R) → At J K → 0 < v → IsUpIn M y v K → (S : List Key) × (M.start v K ≡ Some S)
    -- what is synced is the leader's
    pub synced_lead : (y v : ℕ) (K : List R) → At J K → IsUpIn M y v K → IsPrefix (take (M.state y K).synced (keys_at M y K)) (M.lead v K)
    -- what the view began with is synced
    pub start_synced : (y v : ℕ) (S : List Key) (K : List R) → At J K → IsUpIn M y v K → M.start v K ≡ Some S → length S ≤ (M.state y K).synced

  -- and of pairs of moments
  pub record RunLaws (J : List R) : Type 0 where
    pub laws : StateLaws J
    pub open laws use *
    -- incarnations never fall, and a begin is final
    pub inc_grows : (x : ℕ) (K L : List R) → At J L → At L K → M.inc x K ≤ M.inc x L
    pub start_stays : (v : ℕ) (S : List Key) (K L : List R) → At J L → At L K → M.start v K ≡ Some S → M.start v L ≡ Some S
    -- within an incarnation nothing falls while the replica is up
    pub monotone : (y : ℕ) (K L : List R) → At J L → At L K → M.inc y K ≡ M.inc y L → IsUp (M.state y K).status → IsUp (M.state y L).status → HasGrown y K L
    -- the leader's log of a view grows, from its start on; and a Normal leader's log is the one of its view
    pub lead_grows : (v : ℕ) (K L : List R) → At J L → At L K → IsPrefix (M.lead v K) (M.lead v L)
    pub starts : (v : ℕ) (S : List Key) (K : List R) → At J K → M.start v K ≡ Some S → IsPrefix S (M.lead v K)
    pub lead_is : (v : ℕ) (K : List R) → At J K → IsNormal M (view_leader M v) v K → keys_at M (view_leader M v) K ≡ M.lead v K
    -- a prefix that is comparable with the leader's log stays, within an incarnation and a view
    pub fast_stays : (y v : ℕ) (P : List Key) (K L : List R) → At J L → At L K → M.inc y K ≡ M.inc y L → IsUpIn M y v K → IsUpIn M y v L
        → IsPrefix P (keys_at M y K) → Comparable P (M.lead v L) → IsPrefix P (keys_at M y L)

module _ {R : Type 0} (g : GroupStates R) where
  -- what is needed of the records of a run, so that leaders' logs grow and nothing falls
  pub record RecordLaws (J : List R) : Type 0 where
    -- the first state, and that a record leaves the states of the others
    pub first : (y : ℕ) → (g.state y []).log ≡ []
    pub stays : (y : ℕ) (r : R) (K : List R) → At J (r ∷ K) → IsFalse (g.by r y) → g.state y (r ∷ K) ≡ g.state y K
    -- who is up stays up or goes down, and who is down stays so until the next incarnation
    pub falls : (y : ℕ) (r : R) (K : List R) → At J (r ∷ K) → IsTrue (g.by r y) → IsUp (g.state y K).status
        → IsUp (g.state y (r ∷ K)).status ⊎ ((g.state y (r ∷ K)).status ≡ Down)
    pub rests : (y : ℕ) (r : R) (K : List R) → At J (r ∷ K) → IsTrue (g.by r y) → (g.state y K).status ≡ Down
        → ((g.state y (r ∷ K)).status ≡ Down) ⊎ IsTrue (g.restarts r)
    -- nothing falls while the replica is up
    pub grows : (y : ℕ) (r : R) (K : List R) → At J (r ∷ K) → IsTrue (g.by r y) → IsUp (g.state y K).status → IsUp (g.state y (r ∷ K)).status
        → HasGrown (machine_of g) y K (r ∷ K)
    -- a view that has begun does not begin again, and a Normal leader's log grows
    pub begins_once : (v : ℕ) (r : R) (K : List R) → At J (r ∷ K) → IsTrue (g.by r (leader_of g.f v)) → IsNormal (machine_of g) (leader_of g.f v) v (r ∷ K)
        → (start_of g v K ≡ None) ⊎ IsNormal (machine_of g) (leader_of g.f v) v K
    pub releases : (v : ℕ) (r : R) (K : List R) → At J (r ∷ K) → IsTrue (g.by r (leader_of g.f v)) → IsNormal (machine_of g) (leader_of g.f v) v K
        → IsNormal (machine_of g) (leader_of g.f v) v (r ∷ K)
        → IsPrefix (keys_at (machine_of g) (leader_of g.f v) K) (keys_at (machine_of g) (leader_of g.f v) (r ∷ K))

  -- with the laws of states, and what a record leaves of a prefix
  pub record StepLaws (J : List R) : Type 0 where
    pub records : RecordLaws J
    pub keeps : (y v : ℕ) (P : List Key) (r : R) (K : List R) → At J (r ∷ K) → IsTrue (g.by r y) → IsUpIn (machine_of g) y v K
        → IsUpIn (machine_of g) y v (r ∷ K) → IsPrefix P (keys_at (machine_of g) y K) → Comparable P (lead_of g v (r ∷ K))
        → IsPrefix P (keys_at (machine_of g) y (r ∷ K))
    pub laws : StateLaws (machine_of g) J
