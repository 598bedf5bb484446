-- What the clients of a run see.
use Rattle.std.specs.Prelude.{ℕ, zero, suc, ◌+◌, ◌-◌, List, [], ◌∷◌, ◌++◌, Option, Some, None, nat_lt, if◌then◌else◌, slice_get}
use Rattle.nz_base.specs.declared.actor.Actor.{Actor}
use Rattle.nz_base.specs.declared.actor.Actor.TheVariants.{Replica, Proxy, Client}
use Rattle.nz_base.specs.declared.key.Id.{Id}
use Rattle.nz_base.specs.declared.scenario.Request.{Request}
use Rattle.nz_msg.specs.declared.envelope.Envelope.{Envelope}
use Rattle.nz_msg.specs.declared.message.Message.{Message}
use Rattle.nz_msg.specs.declared.message.Message.TheVariants.{Answer}
use Rattle.nz_machine.specs.declared.client_event.ClientEvent.{ClientEvent}
use Rattle.nz_machine.specs.declared.client_event.ClientEvent.TheVariants.{Sent, Accepted}
use Rattle.nz_machine.specs.declared.event.Event.{Event}
use Rattle.nz_machine.specs.declared.event.Event.TheVariants.{Deliver}
use Rattle.nz_machine.specs.declared.event.Record.{Record}
use Rattle.nz_machine.specs.rules.State.{ClientData, Group}
use Rattle.nz_machine.specs.rules.Step.{accepted_envelope, script_of}
use Rattle.nz_machine.specs.runs.World.{state_after}

-- The id of a client's request.
abbrev pub id_at : ℕ → ℕ → Id
id_at client num = record { client = client; num = num }

-- The command of a request, empty where there is none.
abbrev pub command_of_request : Option Request → List ℕ
command_of_request None = []
command_of_request (Some request) = request.command

-- The command of the request of this number, counted from 1.
abbrev pub script_command : List Request → ℕ → List ℕ
script_command script num = command_of_request (slice_get script (num - 1))

-- What an actor reads in an event.
abbrev pub read_in : Group → Actor → Event → Option Envelope
read_in g a (Deliver p) = accepted_envelope g.f a p
read_in g a _ = None

-- The count of acceptances rose: the answer was accepted.
abbrev pub accepted_in : ℕ → ClientData → ClientData → Message → List ClientEvent
accepted_in c before after (Answer b) = if nat_lt before.accepted after.accepted then Accepted (id_at c b.num) b.answer b.path ∷ [] else []
accepted_in c before after _ = []

-- What a client accepted, where it read an envelope.
abbrev pub accepted_by : ℕ → ClientData → ClientData → Option Envelope → List ClientEvent
accepted_by c before after None = []
accepted_by c before after (Some e) = accepted_in c before after e.message

-- The given number of requests, those after the one with this number.
abbrev pub sent_after : ℕ → List Request → ℕ → ℕ → List ClientEvent
sent_after c script num zero = []
sent_after c script num (suc more) = Sent (id_at c (num + 1)) (script_command script (num + 1)) ∷ sent_after c script (num + 1) more

-- The count of requests rose: as many more were sent, in rising number.
abbrev pub sent_by : ℕ → List Request → ClientData → ClientData → List ClientEvent
sent_by c script before after = sent_after c script before.sent (after.sent - before.sent)

-- What a record says, after the records J: an acceptance first.
abbrev pub client_events : Group → Actor → Record → List Record → List ClientEvent
client_events g (Client c) r J =
    let before = state_after g (Client c) J in
    let after = state_after g (Client c) (r ∷ J) in
    accepted_by c before after (read_in g (Client c) r.event) ++ sent_by c (script_of g c) before after
client_events g (Replica m) r J = []
client_events g (Proxy p) r J = []

-- The events of a run, the oldest first.
abbrev pub events : Group → List Record → List ClientEvent
events g [] = []
events g (r ∷ J) = events g J ++ client_events g r.actor r J
