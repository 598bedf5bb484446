-- What the loop that sends to each replica has sent.
use Rattle.std.proofs.Common.{ℕ, List, map}
use Rattle.nz_base.specs.declared.actor.Actor.{Actor}
use Rattle.nz_msg.specs.declared.message.Message.{Message}
use Rattle.nz_machine.specs.declared.event.Parcel.{Parcel}
use Rattle.nz_machine.specs.rules.Replicas.{numbers_below}
use Rattle.nz_machine.specs.rules.Step.{parcel}
use Rattle.nz_proxy.specs.Sending.{to_each}

-- the parcels of a message to the replicas below a number
abbrev pub parcels_below : Actor → Message → ℕ → List Parcel
parcels_below me message n = map (parcel me) (to_each message (numbers_below n))
