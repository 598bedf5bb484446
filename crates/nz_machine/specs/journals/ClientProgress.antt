-- What the records of a run show of its clients: how far each is, and the events of a record.
use Rattle.std.specs.Prelude.{◌≡◌, ℕ, ◌<◌, ◌≤◌, not, ◌==◌, nat_lt, if◌then◌else◌, List, [], ◌∷◌, ◌++◌}
use Rattle.std.specs.Prelude.{length, map, filter, Option, Some, None, Result, Ok, Err, slice_get}
use Rattle.std.specs.List.{list_any}
use Rattle.nz_base.specs.declared.actor.Actor.{Actor}
use Rattle.nz_base.specs.declared.actor.Actor.TheVariants.{Proxy, Client}
use Rattle.nz_base.specs.declared.scenario.Request.{Request as Scripted}
use Rattle.nz_msg.specs.declared.envelope.Envelope.{Envelope}
use Rattle.nz_msg.specs.declared.refusal.DecodeRefusal.{DecodeRefusal}
use Rattle.nz_msg.specs.declared.message.AnswerBody.{AnswerBody}
use Rattle.nz_msg.specs.declared.message.Message.{Message}
use Rattle.nz_msg.specs.declared.message.Message.TheVariants.{Answer, Request}
use Rattle.nz_msg.specs.Envelope.{decode_of}
use Rattle.nz_machine.specs.declared.data.Attempt.{Attempt}
use Rattle.nz_machine.specs.declared.event.Event.{Event}
use Rattle.nz_machine.specs.declared.event.Event.TheVariants.{Deliver, Cut, Tick, Alarm, Crash, Restart}
use Rattle.nz_machine.specs.declared.event.Parcel.{Parcel}
use Rattle.nz_machine.specs.declared.event.Record.{Record}
use Rattle.nz_machine.specs.rules.State.{ClientData, Group}
use Rattle.nz_machine.specs.rules.Step.{envelope_for}
use Rattle.nz_machine.specs.runs.World.{state_after}
use Rattle.nz_machine.specs.declared.client_event.ClientEvent.{ClientEvent}
use Rattle.nz_machine.specs.declared.client_event.ClientEvent.TheVariants.{Sent, Accepted}
use Rattle.nz_machine.specs.runs.Events.{id_at, script_command}

-- ---- how far the clients are

-- How far a client is: the number of the request that it sent last, or 0, and the numbers of the open ones.
pub record Progress : Type 0 where
  pub sent : ℕ
  pub waiting : List ℕ

-- What is known of a client at the start.
abbrev pub first_progress : Progress
first_progress = record { sent = 0; waiting = [] }

-- What of a client's state is kept: how many requests it sent, and the numbers of the open ones.
abbrev pub progress_of : ClientData → Progress
progress_of s = record { sent = s.sent; waiting = map (λ (a : Attempt). a.num) s.attempts }

-- Each client of the group is as far as it is after the records.
pub record AreAfter (g : Group) (J : List Record) (clients : List Progress) : Type 0 where
  pub count : length clients ≡ length g.scripts
  pub each : (c : ℕ) → c < length g.scripts → slice_get clients c ≡ Some (progress_of (state_after g (Client c) J))

-- The actor is none of this many clients.
abbrev pub IsNoneOf : ℕ → Actor → Type 0
IsNoneOf count (Client c) = count ≤ c
IsNoneOf count _ = Unit {0}

-- ---- what one record shows of its client

-- A proxy's answer with the number of an open request.
abbrev pub answer_in : Progress → Actor → Message → Option AnswerBody
answer_in p (Proxy q) (Answer b) = if list_any (λ num. num == b.num) p.waiting then Some b else None
answer_in p _ _ = None

-- The answer to an open request in what a client reads, if it is one.
abbrev pub answer_read : Progress → Option Envelope → Option AnswerBody
answer_read p None = None
answer_read p (Some e) = answer_in p e.from e.message

-- The same, where the event delivers one.
abbrev pub answer_of : ℕ → Progress → Event → Option AnswerBody
answer_of c p (Deliver parcel) = answer_read p (envelope_for (Client c) parcel)
answer_of c p (Cut kept parcel) = None
answer_of c p (Tick clock) = None
answer_of c p Alarm = None
answer_of c p Crash = None
answer_of c p (Restart nonce) = None

-- What is answered is no longer open.
abbrev pub with_answer : Progress → Option AnswerBody → Progress
with_answer p None = p
with_answer p (Some b) = record p { waiting = filter (λ num. not (num == b.num)) p.waiting }

-- The client accepts the answer, if there is one.
abbrev pub acceptance : ℕ → Option AnswerBody → List ClientEvent
acceptance c None = []
acceptance c (Some b) = Accepted (id_at c b.num) b.answer b.path ∷ []

-- The number of the request in a message.
abbrev pub num_in : Message → Option ℕ
num_in (Request b) = Some b.num
num_in _ = None

-- The same, of a decoded frame.
abbrev pub num_read : Result Envelope DecodeRefusal → Option ℕ
num_read (Err refusal) = None
num_read (Ok e) = num_in e.message

-- The number of the request that a parcel has, if it has one.
unfoldable pub num_of : Parcel → Option ℕ
num_of parcel = num_read (decode_of parcel.frame)

-- A request is new exactly where its number is above those of all that were sent. Its command is that of the script.
abbrev pub new_in : ℕ → List Scripted → Progress → Option ℕ → List ClientEvent
new_in c script p None = []
new_in c script p (Some num) = if nat_lt p.sent num then Sent (id_at c num) (script_command script num) ∷ [] else []

-- A request of a greater number than all before is new, and open.
abbrev pub with_num : Progress → Option ℕ → Progress
with_num p None = p
with_num p (Some num) = if nat_lt p.sent num then record { sent = num; waiting = p.waiting ++ num ∷ [] } else p

-- The new requests among those with these numbers, in their order.
abbrev pub new_among : ℕ → List Scripted → Progress → List (Option ℕ) → List ClientEvent
new_among c script p [] = []
new_among c script p (num ∷ nums) = new_in c script p num ++ new_among c script (with_num p num) nums

-- The same of several requests in turn.
abbrev pub with_all : Progress → List (Option ℕ) → Progress
with_all p [] = p
with_all p (num ∷ nums) = with_all (with_num p num) nums

-- The events of a client's record, and how far the client is then.
abbrev pub after_client_record : ℕ → List Scripted → Progress → Event → List Parcel → List ClientEvent × Progress
after_client_record c script p e sends =
    let answer = answer_of c p e in
    let free = with_answer p answer in
    let nums = map num_of sends in
    (acceptance c answer ++ new_among c script free nums, with_all free nums)
