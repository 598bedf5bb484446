-- Who leads a view, and the log that it leads with.
use Rattle.std.specs.Prelude.{ℕ, Bool, ◌&&◌, ◌==◌, List, [], ◌∷◌, if◌then◌else◌}
use Rattle.nz_base.specs.Cluster.{leader_of}
use Rattle.nz_base.specs.declared.actor.Actor.TheVariants.{Replica}
use Rattle.nz_base.specs.declared.key.Entry.{Entry}
use Rattle.nz_machine.specs.declared.event.Record.{Record}
use Rattle.nz_machine.specs.rules.State.{ReplicaData, Group}
use Rattle.nz_machine.specs.rules.Replicas.{is_normal}
use Rattle.nz_machine.specs.runs.World.{state_after}

-- Whether the replica is in normal operation in the view.
abbrev pub is_normal_in : ℕ → ReplicaData → Bool
is_normal_in v s = is_normal s.status && (s.view == v)

-- The state of the view's leader after the records.
abbrev pub leader_at : Group → ℕ → List Record → ReplicaData
leader_at g v J = state_after g (Replica (leader_of g.f v)) J

-- Whether the leader of the view leads it after the records.
abbrev pub is_led : Group → ℕ → List Record → Bool
is_led g v J = is_normal_in v (leader_at g v J)

-- The log of the view's leader when it last led the view.
unfoldable pub lead : Group → ℕ → List Record → List Entry
lead g v [] = []
lead g v (r ∷ J) = if is_led g v (r ∷ J) then (leader_at g v (r ∷ J)).log.entries else lead g v J
