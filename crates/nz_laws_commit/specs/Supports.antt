-- What replicas had and could answer, and what supports a list of keys in a view.
use Rattle.std.specs.Prelude.{◌≡◌, ℕ, ◌≤◌, ◌<◌, ◌⊎◌, List, ◌∷◌, length, Some, IsTrue}
use Rattle.nz_base.specs.declared.key.Key.{Key}
use Rattle.nz_base.specs.Log.{keys_of}
use Rattle.nz_base.specs.Cluster.{leader_of}
use Rattle.nz_base.specs.Moments.{At}
use Rattle.nz_base.specs.Prefixes.{IsPrefix}
use Rattle.nz_math.specs.Count.{is_in, IsChoice}
use Rattle.nz_math.specs.Quorum.{group_size, slow_quorum, fast_quorum}
use Rattle.nz_laws_commit.specs.States.{Normal, IsUp, Machine}

module _ {R : Type 0} (M : Machine R) where
  -- The keys of a replica's log.
  abbrev pub keys_at : ℕ → List R → List Key
  keys_at x K = keys_of (M.state x K).log

  -- The leader of a view.
  abbrev pub view_leader : ℕ → ℕ
  view_leader v = leader_of M.f v

  -- The replica is Normal in the view.
  pub record IsNormal (x v : ℕ) (K : List R) : Type 0 where
    pub status : (M.state x K).status ≡ Normal
    pub view : (M.state x K).view ≡ v

  -- The replica is up, and was last Normal in the view.
  pub record IsUpIn (x v : ℕ) (K : List R) : Type 0 where
    pub up : IsUp (M.state x K).status
    pub last : (M.state x K).last ≡ v

  -- The replica was Normal in the view with this many entries synced.
  pub record HadSynced (v y count : ℕ) (J : List R) : Type 0 where
    pub K : List R
    pub moment : At J K
    pub normal : IsNormal y v K
    pub enough : count ≤ (M.state y K).synced

  -- By a record of its own the replica could send a fast-reply of the view with this vector: it was Normal in the view
  -- before the record, and after it has the vector and a log that begins with the keys.
  pub record FastReplied (v y : ℕ) (P : List Key) (u : List ℕ) (J : List R) : Type 0 where
    pub r : R
    pub K : List R
    pub moment : At J (r ∷ K)
    pub actor : IsTrue (M.by r y)
    pub normal : IsNormal y v K
    pub after : IsUpIn y v (r ∷ K)
    pub vector : (M.state y (r ∷ K)).vector ≡ u
    pub holds : IsPrefix P (keys_at y (r ∷ K))

  -- At the moment K the view's leader is Normal in it, and its log begins with the keys.
  pub record IsLedAt (v : ℕ) (P : List Key) (K J : List R) : Type 0 where
    pub moment : At J K
    pub normal : IsNormal (view_leader v) v K
    pub holds : IsPrefix P (keys_at (view_leader v) K)

  -- f + 1 replicas had this many entries synced.
  pub record SlowSupport (v : ℕ) (P : List Key) (J : List R) : Type 0 where
    pub members : List ℕ
    pub choice : IsChoice (group_size M.f) members
    pub enough : slow_quorum M.f ≤ length members
    pub each : (y : ℕ) → IsTrue (is_in members y) → HadSynced v y (length P) J

  -- The leader had a log as long with some vector, and each of a fast quorum had this many entries synced or could
  -- send a fast-reply for the keys with this vector.
  pub record FastSupport (v : ℕ) (P : List Key) (J : List R) : Type 0 where
    pub u : List ℕ
    pub K : List R
    pub moment : At J K
    pub normal : IsNormal (view_leader v) v K
    pub vector : (M.state (view_leader v) K).vector ≡ u
    pub long : length P ≤ length (keys_at (view_leader v) K)
    pub members : List ℕ
    pub choice : IsChoice (group_size M.f) members
    pub enough : fast_quorum M.f ≤ length members
    pub each : (y : ℕ) → IsTrue (is_in members y) → HadSynced v y (length P) J ⊎ FastReplied v y P u J

  -- The keys are a prefix of the log of the view's leader, and a slow or a fast quorum supports them.
  pub record Support (v : ℕ) (P : List Key) (J : List R) : Type 0 where
    pub lead : IsPrefix P (M.lead v J)
    pub quorum : SlowSupport v P J ⊎ FastSupport v P J

  -- Each later view began with the keys.
  abbrev pub InLaterStarts : List R → ℕ → List Key → Type 0
  InLaterStarts J v P = (w : ℕ) (S : List Key) → v < w → M.start w J ≡ Some S → IsPrefix P S
