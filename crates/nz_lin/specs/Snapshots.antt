-- In a run each message is read off its sender's states before and after the record that first sent it.
use Rattle.std.specs.Prelude.{◌≡◌, List, ◌∷◌, Some, Ok}
use Rattle.nz_msg.specs.declared.message.Message.{Message}
use Rattle.nz_msg.specs.Envelope.{decode_of}
use Rattle.nz_machine.specs.declared.event.Parcel.{Parcel}
use Rattle.nz_machine.specs.declared.event.Record.{Record}
use Rattle.nz_machine.specs.rules.State.{Group}
use Rattle.nz_machine.specs.runs.World.{state_after}
use Rattle.nz_machine.specs.runs.History.{source}
use Rattle.nz_machine.specs.runs.Hearing.{heard_at}
use Rattle.nz_machine.specs.runs.Shows.{Shows}

-- The parcel is of one message, which shows its sender before and after the record that first sent it.
pub record IsSnapshot (g : Group) (J : List Record) (p : Parcel) : Type 0 where
  pub newest : Record
  pub older : List Record
  pub first : source p J ≡ Some (newest ∷ older)
  pub sender : newest.actor ≡ p.from
  pub message : Message
  pub decoded : decode_of p.frame ≡ Ok (record { from = p.from; to = p.to; message = message })
  pub shows : Shows g p.from (heard_at g p.from newest.event) (state_after g p.from older) (state_after g p.from (newest ∷ older)) p.to message
