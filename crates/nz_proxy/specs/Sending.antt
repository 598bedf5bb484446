-- One message to some replicas.
use Rattle.std.specs.Prelude.{ℕ, List, map}
use Rattle.nz_base.specs.declared.actor.Actor.TheVariants.{Replica}
use Rattle.nz_msg.specs.declared.message.Message.{Message}
use Rattle.nz_machine.specs.rules.State.{Out}

-- A message for a replica.
abbrev pub parcel_to_replica : Message → ℕ → Out
parcel_to_replica message replica = (Replica replica, message)

-- A message for each of some replicas.
abbrev pub to_each : Message → List ℕ → List Out
to_each message replicas = map (parcel_to_replica message) replicas
