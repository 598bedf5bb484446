-- What the laws over all runs say, beside the words of the machine.
use Rattle.std.specs.Prelude.{◌≡◌, Ok}
use Rattle.nz_base.specs.Actor.{HasAddress}
use Rattle.nz_msg.specs.declared.message.Message.{Message}
use Rattle.nz_msg.specs.Messages.{Fits}
use Rattle.nz_msg.specs.Envelope.{decode_of}
use Rattle.nz_machine.specs.declared.event.Parcel.{Parcel}

-- The frame of a parcel says one message, from its sender to its receiver, in the ranges of frames.
pub record IsDecoded (p : Parcel) : Type 0 where
  pub message : Message
  pub sender : HasAddress p.from
  pub receiver : HasAddress p.to
  pub fit : Fits message
  pub decoded : decode_of p.frame ≡ Ok (record { from = p.from; to = p.to; message = message })
