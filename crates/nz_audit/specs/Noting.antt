-- What a proxy knows of a request, with the source of each reply.
use Rattle.std.specs.Prelude.{ℕ, ◌≡◌, Bool, true, false, List, [], ◌∷◌, ◌++◌, Option, Some, None, slice_get, is_some, if◌then◌else◌}
use Rattle.std.specs.List.{list_any, position}
use Rattle.std.specs.Option.{option_map, option_flatten}
use Rattle.nz_base.specs.declared.key.Id.{Id}
use Rattle.nz_base.specs.Key.{id_eq}
use Rattle.nz_base.specs.declared.actor.Actor.{Actor}
use Rattle.nz_base.specs.declared.actor.Actor.TheVariants.{Replica, Proxy, Client}
use Rattle.nz_msg.specs.declared.envelope.Envelope.{Envelope}
use Rattle.nz_msg.specs.declared.message.Message.{Message}
use Rattle.nz_msg.specs.declared.message.Message.TheVariants.{Request, FastReply, SlowReply}
use Rattle.nz_machine.specs.declared.event.Event.{Event}
use Rattle.nz_machine.specs.declared.event.Event.TheVariants.{Deliver, Cut, Tick, Alarm, Crash, Restart}
use Rattle.nz_machine.specs.declared.reply.Reply.{Reply}
use Rattle.nz_machine.specs.rules.Quorums.{Chosen, answer_in, decision, reply_eq}
use Rattle.nz_machine.specs.rules.Proxies.{of_fast, of_slow}
use Rattle.nz_machine.specs.rules.Step.{accepted_envelope}
use Rattle.nz_quorum.specs.Tallies.{IsOfCluster}
use Rattle.nz_audit.specs.declared.accepted.answers.Source.{Source}
use Rattle.nz_audit.specs.declared.sources.notes.Notes.{Notes}
use Rattle.nz_audit.specs.declared.sources.notes.Noted.{Noted}
use Rattle.nz_audit.specs.declared.sources.notes.Noted.TheVariants.{Open, Decided}

-- No replies yet.
abbrev pub first_notes : ℕ → Notes
first_notes f = record { tally = record { f = f; replies = [] }; sources = [] }

-- A new reply goes last, with its source.
abbrev pub with_source : Notes → Reply → Option Source → Notes
with_source notes reply source =
    if list_any (reply_eq reply) notes.tally.replies then notes
    else (record { tally = record notes.tally { replies = notes.tally.replies ++ reply ∷ [] }; sources = notes.sources ++ source ∷ [] })

-- The source in a place, if there is one.
abbrev pub source_at : List (Option Source) → Option ℕ → Option Source
source_at sources None = None
source_at sources (Some place) = option_flatten (slice_get sources place)

-- The source of a reply among some replies.
abbrev pub source_among : List (Option Source) → List Reply → Reply → Option Source
source_among sources replies reply = source_at sources (position (reply_eq reply) replies)

-- The source of the reply that decides, where one does.
abbrev pub decided_source : Notes → Option (Option Source)
decided_source notes =
    option_map (λ (chosen : Chosen). source_among notes.sources notes.tally.replies chosen.reply) (decision notes.tally.f notes.tally.replies)

-- The notes, or the source of the decision that they give.
abbrev pub noted_if_decided : Notes → Option (Option Source) → Noted
noted_if_decided notes None = Open notes
noted_if_decided notes (Some source) = Decided source

-- A reply to an open request is noted. It may decide, unless the proxy is silent: one that decides answers its client.
abbrev pub noted_by : Bool → Reply → Option Source → Noted → Noted
noted_by silent reply source (Decided kept) = Decided kept
noted_by silent reply source (Open notes) =
    let now = with_source notes reply source in
    if silent then Open now else noted_if_decided now (decided_source now)

-- A reply without an answer has no source.
abbrev pub source_if_answer : Option Source → Reply → Option Source
source_if_answer source reply = if is_some (answer_in reply) then source else None

-- Whether the request is open.
abbrev pub is_open : Option Noted → Bool
is_open None = false
is_open (Some (Open notes)) = true
is_open (Some (Decided source)) = false

-- The reply may be noted there.
abbrev pub IsNotableBeside : Noted → Reply → Type 0
IsNotableBeside (Open notes) reply = IsOfCluster notes.tally.f reply
IsNotableBeside (Decided source) reply = Unit {0}

-- What is known is of a cluster of this size.
abbrev pub IsSized : ℕ → Option Noted → Type 0
IsSized f None = Unit {0}
IsSized f (Some (Open notes)) = notes.tally.f ≡ f
IsSized f (Some (Decided source)) = Unit {0}

-- ---- what becomes of it in an event; the source is that of the parcel that is delivered, and a silent proxy sends nothing

-- What is kept once the request was asked for.
abbrev pub noted_after_request : ℕ → Option Noted → Option Noted
noted_after_request f None = Some (Open (first_notes f))
noted_after_request f (Some noted) = Some noted

-- What is kept of a request after a message.
abbrev pub after_message : ℕ → Option Source → Bool → Id → Actor → Message → Option Noted → Option Noted
after_message f source silent id (Client c) (Request b) known =
    if id_eq (record { client = c; num = b.num }) id then noted_after_request f known else known
after_message f source silent id (Replica r) (FastReply b) known =
    if id_eq b.id id then option_map (noted_by silent (of_fast r b) (source_if_answer source (of_fast r b))) known else known
after_message f source silent id (Replica r) (SlowReply b) known =
    if id_eq b.id id then option_map (noted_by silent (of_slow r b) (source_if_answer source (of_slow r b))) known else known
after_message f source silent id _ _ known = known

-- A proxy that is down hears nothing.
abbrev pub after_envelope : ℕ → Option Source → Bool → Bool → Id → Option Envelope → Option Noted → Option Noted
after_envelope f source silent down id None known = known
after_envelope f source silent down id (Some e) known = if down then known else after_message f source silent id e.from e.message known

-- What is kept of a request after an event.
abbrev pub after_event : ℕ → ℕ → Option Source → Bool → Bool → Id → Event → Option Noted → Option Noted
after_event f me source silent down id (Deliver p) known = after_envelope f source silent down id (accepted_envelope f (Proxy me) p) known
after_event f me source silent down id (Cut kept p) known = known
after_event f me source silent down id (Tick clock) known = known
after_event f me source silent down id Alarm known = known
after_event f me source silent down id Crash known = None
after_event f me source silent down id (Restart nonce) known = if down then None else known

-- Whether the proxy is down after an event.
abbrev pub down_after : Event → Bool → Bool
down_after (Deliver p) down = down
down_after (Cut kept p) down = down
down_after (Tick clock) down = down
down_after Alarm down = down
down_after Crash down = true
down_after (Restart nonce) down = false

-- The source of the reply that decided.
abbrev pub decided_in : Option Noted → Option Source
decided_in None = None
decided_in (Some (Open notes)) = None
decided_in (Some (Decided source)) = source
