-- Messages as frames: the grammar of whole frames, and what is decoded.
use Rattle.std.specs.Prelude.{◌≡◌, ℕ, ◌-◌, List, length, drop, slice_index, Option, Some, None, Result, Ok, Err}
use Rattle.nz_base.specs.declared.actor.Actor.{Actor}
use Rattle.nz_base.specs.Actor.{HasAddress, address_of, actor_at}
use Rattle.nz_frame.specs.Grammar.{frame}
use Rattle.nz_frame.specs.declared.refusal.FrameRefusal.{FrameRefusal}
use Rattle.nz_frame.specs.declared.refusal.FrameRefusal.TheVariants.{BadActor}
use Rattle.nz_frame.specs.Refusal.{sender, receiver, refusal}
use Rattle.nz_msg.specs.declared.message.Message.{Message}
use Rattle.nz_msg.specs.declared.envelope.Envelope.{Envelope}
use Rattle.nz_msg.specs.declared.refusal.DecodeRefusal.{DecodeRefusal}
use Rattle.nz_msg.specs.declared.refusal.DecodeRefusal.TheVariants.{Frame, BadBody, NoMemory}
use Rattle.nz_msg.specs.Messages.{kind_of, Fits, body_of, body_at}

-- The one spelling of a message from one actor to another.
unfoldable pub encode_of : Actor → Actor → Message → List ℕ
encode_of from to message = frame (kind_of message) (address_of from) (address_of to) (body_of message)

-- The bytes are the frame of this envelope.
pub record Spells (envelope : Envelope) (bytes : List ℕ) : Type 0 where
  pub sender : HasAddress envelope.from
  pub receiver : HasAddress envelope.to
  pub fit : Fits envelope.message
  pub spelled : bytes ≡ encode_of envelope.from envelope.to envelope.message

-- ---- decoding

-- The actor that is named at a place.
abbrev pub actor_if_known : ℕ → Option Actor → Result Actor DecodeRefusal
actor_if_known place (Some actor) = Ok actor
actor_if_known place None = Err (Frame (BadActor place))

-- What follows once the frame's own tests are passed.
abbrev pub unless_refused : Option FrameRefusal → Result Envelope DecodeRefusal → Result Envelope DecodeRefusal
unless_refused (Some r) envelope = Err (Frame r)
unless_refused None envelope = envelope

-- The envelope of what was read. A fault this many bytes before the end is at the place that is left of all.
abbrev pub envelope_if_read : ℕ → Result Actor DecodeRefusal → Result Actor DecodeRefusal → Result Message ℕ → Result Envelope DecodeRefusal
envelope_if_read size (Err r) to message = Err r
envelope_if_read size (Ok from) (Err r) message = Err r
envelope_if_read size (Ok from) (Ok to) (Err left) = Err (BadBody (size - left))
envelope_if_read size (Ok from) (Ok to) (Ok message) = Ok (record { from = from; to = to; message = message })

-- What the bytes say, or why they say nothing: first as a frame, and then as a message of the frame's kind.
unfoldable pub decode_of : List ℕ → Result Envelope DecodeRefusal
decode_of bytes =
    unless_refused (refusal bytes)
    (envelope_if_read (length bytes) (actor_if_known 6 (actor_at (sender bytes)))
    (actor_if_known 8 (actor_at (receiver bytes))) (body_at (slice_index bytes 5) (drop 10 bytes)))

-- The refusal is that of the bytes, or memory was not found.
abbrev pub IsRefusedAs : List ℕ → DecodeRefusal → Type 0
IsRefusedAs bytes (Frame r) = decode_of bytes ≡ Err (Frame r)
IsRefusedAs bytes (BadBody place) = decode_of bytes ≡ Err (BadBody place)
IsRefusedAs bytes NoMemory = Unit {0}
