-- The premises on the rules: what a record does to the state of its actor, as far as the laws on logs read it.
use Rattle.std.specs.Prelude.{◌≡◌, ℕ, ◌≤◌, ◌<◌, ◌⊎◌, List, [], ◌∷◌, length, take, None, IsTrue, IsFalse}
use Rattle.nz_base.specs.declared.key.Key.{Key}
use Rattle.nz_base.specs.Log.{keys_of}
use Rattle.nz_base.specs.Cluster.{leader_of}
use Rattle.nz_base.specs.Moments.{At}
use Rattle.nz_base.specs.Prefixes.{IsPrefix, Comparable}
use Rattle.nz_laws_commit.specs.States.{Normal, ViewChange, Rejoining, Down, IsUp, LogState, place}
use Rattle.nz_laws_commit.specs.Supports.{IsNormal, keys_at}
use Rattle.nz_laws_commit.specs.Premises.{ViewPremises}
use Rattle.nz_laws_commit.specs.Machines.{GroupStates, start_of, machine_of}

-- ---- from a state s to a state t

-- Status, view, last view, log and synced stay.
pub record IsUnchanged (s t : LogState) : Type 0 where
  pub status : t.status ≡ s.status
  pub view : t.view ≡ s.view
  pub last : t.last ≡ s.last
  pub synced : t.synced ≡ s.synced
  pub log : t.log ≡ s.log

-- Entries are appended; the leader of the view has all synced, and stays Normal.
pub record Releases (f y : ℕ) (s t : LogState) : Type 0 where
  pub before : s.status ≡ Normal
  pub after : t.status ≡ Normal
  pub view : t.view ≡ s.view
  pub last : t.last ≡ s.last
  pub log : IsPrefix (keys_of s.log) (keys_of t.log)
  pub leads : leader_of f s.view ≡ y → t.synced ≡ length t.log
  pub follows : ¬ (leader_of f s.view ≡ y) → t.synced ≡ s.synced

-- A greater view is entered; a follower may have released entries in the same record.
pub record Enters (s t : LogState) : Type 0 where
  pub before : IsUp s.status
  pub after : t.status ≡ ViewChange
  pub view : s.view < t.view
  pub last : t.last ≡ s.last
  pub log : IsPrefix (keys_of s.log) (keys_of t.log)
  pub synced : t.synced ≡ s.synced

-- What a log modification does to a follower's log, if its keys are in this list where they belong: the synced part is
-- a prefix of the list, and so is each prefix of the log that is comparable with the list.
pub record IsModified (lead : List Key) (s t : LogState) : Type 0 where
  pub part : IsPrefix (take t.synced (keys_of t.log)) lead
  pub prefixes : (P : List Key) → IsPrefix P (keys_of s.log) → Comparable P lead → IsPrefix P (keys_of t.log)

-- No place of the vector falls, and the own place stays.
pub record VectorGrows (y : ℕ) (s t : LogState) : Type 0 where
  pub vector : (m : ℕ) → place s.vector m ≤ place t.vector m
  pub own : place s.vector y ≡ place t.vector y

module _ {R : Type 0} (g : GroupStates R) where
  -- A follower takes a log modification that the leader of its view sent at the moment `sent_at`.
  pub record Syncs (y : ℕ) (K : List R) (s t : LogState) : Type 0 where
    pub before : s.status ≡ Normal
    pub after : t.status ≡ Normal
    pub view : t.view ≡ s.view
    pub last : t.last ≡ s.last
    pub follows : ¬ (leader_of g.f s.view ≡ y)
    pub sent_at : List R
    pub moment : At K sent_at
    pub leader : IsNormal (machine_of g) (leader_of g.f s.view) s.view sent_at
    pub synced : s.synced ≤ t.synced
    pub entries : take s.synced (keys_of s.log) ≡ take s.synced (keys_of t.log)
    pub modified : (lead : List Key) → IsPrefix (take s.synced (keys_of s.log)) lead
        → IsPrefix (keys_at (machine_of g) (leader_of g.f s.view) sent_at) lead → IsModified lead s t

  -- The replica begins the view that it leads.
  pub record BeginsView (y : ℕ) (s t : LogState) : Type 0 where
    pub before : IsUp s.status
    pub after : t.status ≡ Normal
    pub leads : leader_of g.f t.view ≡ y
    pub view : s.view ≤ t.view
    pub last : t.last ≡ t.view
    pub higher : s.last < t.last
    pub synced : t.synced ≡ length t.log

  -- It takes the log that the leader of a view sent it at the moment `sent_at`, by a start-view or a state-tell.
  pub record AdoptsLog (y : ℕ) (K : List R) (s t : LogState) : Type 0 where
    pub before : ¬ (s.status ≡ Down)
    pub after : t.status ≡ Normal
    pub last : t.last ≡ t.view
    pub view : IsUp s.status → s.view ≤ t.view
    pub higher : IsUp s.status → s.last < t.last
    pub synced : t.synced ≡ length t.log
    pub sent_at : List R
    pub moment : At K sent_at
    pub leader : IsNormal (machine_of g) (leader_of g.f t.view) t.view sent_at
    pub log : keys_of t.log ≡ keys_at (machine_of g) (leader_of g.f t.view) sent_at

  -- A restart takes the replica from down to rejoining.
  pub record Restarts (r : R) (s t : LogState) : Type 0 where
    pub before : s.status ≡ Down
    pub after : t.status ≡ Rejoining
    pub event : IsTrue (g.restarts r)

  -- What a record r of the replica y, after the records K, does to its state: nothing that is read here, a release, an
  -- entered view, a log modification, a begin, a log that is adopted, a crash, or a restart.
  pub data Does (y : ℕ) (r : R) (K : List R) : Type 0 where
    Stays : IsUnchanged (g.state y K) (g.state y (r ∷ K)) → Does y r K
    Released : Releases g.f y (g.state y K) (g.state y (r ∷ K)) → Does y r K
    Entered : Enters (g.state y K) (g.state y (r ∷ K)) → Does y r K
    Synced : Syncs y K (g.state y K) (g.state y (r ∷ K)) → Does y r K
    Began : BeginsView y (g.state y K) (g.state y (r ∷ K)) → Does y r K
    Adopted : AdoptsLog y K (g.state y K) (g.state y (r ∷ K)) → Does y r K
    Fell : (g.state y (r ∷ K)).status ≡ Down → Does y r K
    Rose : Restarts r (g.state y K) (g.state y (r ∷ K)) → Does y r K

  -- The run follows the rules, and has what is to be known of states, begins and rejoins.
  pub record FollowsRules (J : List R) : Type 0 where
    -- Before all records logs are empty, and views are 0.
    pub first : (y : ℕ) → (g.state y []).log ≡ []
    pub first_view : (y : ℕ) → (g.state y []).view ≡ 0
    pub first_last : (y : ℕ) → (g.state y []).last ≡ 0
    -- A record changes the state of its actor alone, in one of these ways.
    pub stays : (y : ℕ) (r : R) (K : List R) → At J (r ∷ K) → IsFalse (g.by r y) → g.state y (r ∷ K) ≡ g.state y K
    pub does : (y : ℕ) (r : R) (K : List R) → At J (r ∷ K) → IsTrue (g.by r y) → Does y r K
    -- While a replica is up its vector grows.
    pub vectors : (y : ℕ) (r : R) (K : List R) → At J (r ∷ K) → IsTrue (g.by r y) → IsUp (g.state y K).status → IsUp (g.state y (r ∷ K)).status
        → VectorGrows y (g.state y K) (g.state y (r ∷ K))
    -- A view that has begun does not begin again.
    pub begins_once : (v : ℕ) (r : R) (K : List R) → At J (r ∷ K) → IsTrue (g.by r (leader_of g.f v)) → IsNormal (machine_of g) (leader_of g.f v) v (r ∷ K)
        → (start_of g v K ≡ None) ⊎ IsNormal (machine_of g) (leader_of g.f v) v K
    pub base : ViewPremises (machine_of g) J
