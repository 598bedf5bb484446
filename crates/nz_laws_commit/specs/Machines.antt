-- Incarnations, leaders' logs and begins of a run, by recursion over its records.
use Rattle.std.specs.Prelude.{ℕ, suc, Bool, true, false, ◌&&◌, ◌==◌, if◌then◌else◌, List, [], ◌∷◌, Option, Some, None}
use Rattle.std.specs.Option.{option_or}
use Rattle.nz_base.specs.declared.key.Key.{Key}
use Rattle.nz_base.specs.Log.{keys_of}
use Rattle.nz_base.specs.Cluster.{leader_of}
use Rattle.nz_laws_commit.specs.States.{Status, Normal, ViewChange, Rejoining, Down, LogState, Machine}

-- In normal operation.
abbrev pub is_normal : Status → Bool
is_normal Normal = true
is_normal ViewChange = false
is_normal Rejoining = false
is_normal Down = false

-- Out of service.
abbrev pub is_down : Status → Bool
is_down Normal = false
is_down ViewChange = false
is_down Rejoining = false
is_down Down = true

-- The states of a group of replicas at the moments of its runs, of whose members f may be out of order.
pub record GroupStates (R : Type 0) : Type 0 where
  pub f : ℕ
  -- Whether the replica is the record's actor, and whether the record is of a restart.
  pub by : R → ℕ → Bool
  pub restarts : R → Bool
  pub state : ℕ → List R → LogState

module _ {R : Type 0} (g : GroupStates R) where
  -- The leader of the view acts, and is Normal in it after the record.
  abbrev pub leads_by : ℕ → R → List R → Bool
  leads_by v r K = g.by r (leader_of g.f v) && (is_normal (g.state (leader_of g.f v) (r ∷ K)).status && ((g.state (leader_of g.f v) (r ∷ K)).view == v))

  -- How often the replica was restarted from being down.
  unfoldable pub inc_of : ℕ → List R → ℕ
  inc_of m [] = 0
  inc_of m (r ∷ K) = if g.by r m && (g.restarts r && is_down (g.state m K).status) then suc (inc_of m K) else inc_of m K

  -- The log of the leader of the view, when it last acted and was Normal in it.
  unfoldable pub lead_of : ℕ → List R → List Key
  lead_of v [] = []
  lead_of v (r ∷ K) = if leads_by v r K then keys_of (g.state (leader_of g.f v) (r ∷ K)).log else lead_of v K

  -- The same when it first did; view 0 begins with none.
  unfoldable pub start_of : ℕ → List R → Option (List Key)
  start_of v [] = if v == 0 then Some [] else None
  start_of v (r ∷ K) = option_or (start_of v K) (if leads_by v r K then Some (keys_of (g.state (leader_of g.f v) (r ∷ K)).log) else None)

  -- The machine with these states.
  abbrev pub machine_of : Machine R
  machine_of = record { f = g.f; by = g.by; state = g.state; inc = inc_of; lead = lead_of; start = start_of }
