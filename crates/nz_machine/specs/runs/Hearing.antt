-- What an actor hears in an event.
use Rattle.std.specs.Prelude.{Option, Some, None}
use Rattle.nz_base.specs.declared.actor.Actor.{Actor}
use Rattle.nz_msg.specs.declared.envelope.Envelope.{Envelope}
use Rattle.nz_msg.specs.declared.message.Message.{Message}
use Rattle.nz_machine.specs.declared.event.Event.{Event}
use Rattle.nz_machine.specs.rules.State.{Group}
use Rattle.nz_machine.specs.runs.Events.{read_in}

-- What a step hears: nothing, or a message from an actor.
abbrev pub Heard : Type 0
Heard = Option (Actor × Message)

-- What an envelope says: its sender and its message.
abbrev pub heard_as : Option Envelope → Heard
heard_as None = None
heard_as (Some e) = Some (e.from, e.message)

-- What an actor hears in an event.
abbrev pub heard_at : Group → Actor → Event → Heard
heard_at g a e = heard_as (read_in g a e)
