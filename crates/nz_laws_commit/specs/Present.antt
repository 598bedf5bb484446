-- The views in which the replicas of a group are after a run.
use Rattle.std.specs.Prelude.{ℕ, ◌≤◌, ◌<◌, List, IsTrue}
use Rattle.nz_base.specs.Cluster.{replica_count}
use Rattle.nz_base.specs.declared.actor.Actor.TheVariants.{Replica}
use Rattle.nz_machine.specs.declared.event.Record.{Record}
use Rattle.nz_machine.specs.rules.State.{ReplicaData, Group}
use Rattle.nz_machine.specs.rules.Replicas.{is_up}
use Rattle.nz_machine.specs.runs.World.{state_after}

-- The replica is up, in no view above this one.
pub record IsUpWithin (top : ℕ) (s : ReplicaData) : Type 0 where
  pub up : IsTrue (is_up s.status)
  pub view : s.view ≤ top

-- After the records each replica of the group is up, in no view above this one.
abbrev pub AreUpWithin : ℕ → Group → List Record → Type 0
AreUpWithin top g J = (m : ℕ) → m < replica_count g.f → IsUpWithin top (state_after g (Replica m) J)
