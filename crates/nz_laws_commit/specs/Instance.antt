-- The machine as the laws on logs see it.
use Rattle.nz_base.specs.Actor.{actor_eq}
use Rattle.nz_base.specs.declared.actor.Actor.TheVariants.{Replica}
use Rattle.nz_machine.specs.declared.data.Status.{Status}
use Rattle.nz_machine.specs.declared.data.Status.TheVariants as statuses
use Rattle.nz_machine.specs.declared.event.Record.{Record}
use Rattle.nz_machine.specs.rules.State.{ReplicaData, Group}
use Rattle.nz_machine.specs.runs.Incarnations.{replica_at, is_restart}
use Rattle.nz_laws_commit.specs.States.{LogState, Machine}
use Rattle.nz_laws_commit.specs.States as states
use Rattle.nz_laws_commit.specs.Machines.{GroupStates, machine_of}

-- A status of the machine.
abbrev pub status_of : Status → states.Status
status_of statuses.Normal = states.Normal
status_of statuses.ViewChange = states.ViewChange
status_of statuses.Rejoining = states.Rejoining
status_of statuses.Down = states.Down

-- What the laws on logs read of a replica's state.
abbrev pub log_state : ReplicaData → LogState
log_state s = record { status = status_of s.status; view = s.view; last = s.last; synced = s.log.synced; log = s.log.entries; vector = s.vector }

-- The states of the group's replicas at the moments of its runs.
abbrev pub states_of : Group → GroupStates Record
states_of g = record {
  f = g.f;
  by = λ r y. actor_eq r.actor (Replica y);
  restarts = λ r. is_restart r.event;
  state = λ y K. log_state (replica_at g y K);
}

-- The group as a machine of the laws on logs.
abbrev pub logs_of : Group → Machine Record
logs_of g = machine_of (states_of g)
