-- Where answers come from, in numbers, by the definition of the history.
use Rattle.std.specs.Prelude.{◌≡◌, ℕ, ◌+◌, ◌*◌, ◌==◌, nat_lt, Bool, true, false, ◌&&◌, if◌then◌else◌, List, length, drop, slice_get}
use Rattle.std.specs.Prelude.{Option, Some, None, is_some}
use Rattle.std.specs.Map.{lookup}
use Rattle.std.specs.Option.{option_map, option_and_then, option_flatten}
use Rattle.std.specs.Str.{bytes_eq}
use Rattle.byteorder.specs.Endian.{big_number}
use Rattle.nz_base.specs.Actor.{actor_eq}
use Rattle.nz_base.specs.declared.key.Id.{Id}
use Rattle.nz_base.specs.declared.actor.Actor.{Actor}
use Rattle.nz_base.specs.declared.actor.Actor.TheVariants.{Replica, Proxy, Client}
use Rattle.nz_msg.specs.declared.envelope.Envelope.{Envelope}
use Rattle.nz_msg.specs.declared.message.Message.{Message}
use Rattle.nz_msg.specs.declared.message.Message.TheVariants.{FastReply, Answer}
use Rattle.nz_machine.specs.declared.event.Event.{Event}
use Rattle.nz_machine.specs.declared.event.Event.TheVariants.{Deliver, Cut, Tick, Alarm, Crash, Restart}
use Rattle.nz_machine.specs.declared.event.Parcel.{Parcel}
use Rattle.nz_machine.specs.declared.event.Record.{Record}
use Rattle.nz_machine.specs.rules.State.{Group}
use Rattle.nz_machine.specs.rules.Step.{envelope_for}
use Rattle.nz_machine.specs.runs.Events.{id_at}
use Rattle.nz_machine.specs.runs.History.{ReplySource, source, source_of_sender}
use Rattle.nz_audit.specs.declared.accepted.answers.Source.{Source}
use Rattle.nz_audit.specs.declared.sources.sendings.ParcelKey.{ParcelKey}

-- ---- the source of an answer

-- A replica that sent a reply, and the run up to that record.
abbrev pub numbers_of : Actor → List Record → Option Source
numbers_of (Replica m) K = Some (record { replica = m; records = length K })
numbers_of (Proxy p) K = None
numbers_of (Client c) K = None

-- A source as two numbers.
abbrev pub in_numbers : Option ReplySource → Option Source
in_numbers at = option_and_then (λ (s : ReplySource). numbers_of s.sender s.run) at

-- ---- what a parcel stands for

-- The request that a message is about: a reply with an answer, or the answer for the client.
abbrev pub about_message : Actor → Actor → Message → Option Id
about_message (Replica m) (Proxy q) (FastReply b) = if is_some b.answer then Some b.id else None
about_message (Proxy q) (Client c) (Answer b) = Some (id_at c b.num)
about_message _ _ _ = None

-- The request that a reply with an answer, or an answer, is about.
abbrev pub about_envelope : Option Envelope → Option Id
about_envelope None = None
about_envelope (Some e) = about_message e.from e.to e.message

-- The same of a parcel.
abbrev pub about : Parcel → Option Id
about p = about_envelope (envelope_for p.to p)

-- A request, where it is wanted.
abbrev pub if_wanted : (Id → Bool) → Option Id → Option Id
if_wanted w None = None
if_wanted w (Some id) = if w id then Some id else None

-- It is no other request than a wanted one.
abbrev pub IsNoOther : (Id → Bool) → Option Id → Type 0
IsNoOther w None = Unit {0}
IsNoOther w (Some id) = w id ≡ true

-- The byte after a vector of this size and the delay, which says whether a fast reply has an answer.
abbrev pub flag_after : List ℕ → Option ℕ → Option ℕ
flag_after frame None = None
flag_after frame (Some size) = slice_get frame (51 + 4 * size)

-- Whether a byte is 1.
abbrev pub is_one : Option ℕ → Bool
is_one None = false
is_one (Some byte) = byte == 1

-- Whether the frame of a fast reply has an answer: the vector's size is after the header, the view, the id and the digest.
abbrev pub shows_answer : List ℕ → Bool
shows_answer frame = is_one (flag_after frame (slice_get frame 46))

-- The request that the frame of a reply names: after the header and the view.
abbrev pub named_id : List ℕ → Option Id
named_id frame =
    if nat_lt (length frame) 26 then None else Some (record { client = big_number 4 (drop 18 frame); num = big_number 4 (drop 22 frame) })

-- The number of the request that the frame of a request or an answer names: after the header.
abbrev pub named_num : List ℕ → Option ℕ
named_num frame = if nat_lt (length frame) 14 then None else Some (big_number 4 (drop 10 frame))

-- The source that a parcel about the request stands for, sent first by this actor with the last of the records:
-- a reply is one itself, and an answer stands for that of the reply that decided.
abbrev pub source_sent : Group → Id → Actor → List Record → Option Source
source_sent g id (Replica m) K = numbers_of (Replica m) K
source_sent g id (Proxy q) K = in_numbers (source_of_sender g id (Proxy q) K)
source_sent g id (Client c) K = None

-- The source that a parcel was first sent with, where it is about a request.
abbrev pub stands_for : Group → Parcel → Option (List Record) → Option Id → Option (Option Source)
stands_for g p first None = None
stands_for g p first (Some id) = option_map (source_sent g id p.from) first

-- The source of what is delivered after these records.
abbrev pub delivered_source : Group → List Record → Event → Option Source
delivered_source g J (Deliver p) = option_flatten (stands_for g p (source p J) (about p))
delivered_source g J (Cut kept p) = None
delivered_source g J (Tick clock) = None
delivered_source g J Alarm = None
delivered_source g J Crash = None
delivered_source g J (Restart nonce) = None

-- ---- the table of the parcels that were sent

-- What a parcel is found by.
abbrev pub parcel_key_of : Parcel → ParcelKey
parcel_key_of p = record { from = p.from; to = p.to; frame = p.frame }

-- Whether two parcels are equal.
abbrev pub same_key : ParcelKey → ParcelKey → Bool
same_key a b = actor_eq a.from b.from && (actor_eq a.to b.to && bytes_eq a.frame b.frame)

-- What the table has of a parcel.
abbrev pub kept_of : List (ParcelKey × Option Source) → Parcel → Option (Option Source)
kept_of table p = lookup (same_key (parcel_key_of p)) table

-- The source of what is delivered, by the table.
abbrev pub source_delivered : List (ParcelKey × Option Source) → Event → Option Source
source_delivered table (Deliver p) = option_flatten (kept_of table p)
source_delivered table (Cut kept p) = None
source_delivered table (Tick clock) = None
source_delivered table Alarm = None
source_delivered table Crash = None
source_delivered table (Restart nonce) = None
