-- The history that the answers of a run come from: the longest accepted prefix.
use Rattle.std.specs.Prelude.{ℕ, suc, Bool, true, false, ◌&&◌, List, [], ◌∷◌, length, take, Option, Some, None, nat_lt, if◌then◌else◌}
use Rattle.std.specs.List.{list_any}
use Rattle.std.specs.Option.{option_map, option_and_then}
use Rattle.std.specs.Str.{bytes_eq}
use Rattle.nz_base.specs.Actor.{actor_eq}
use Rattle.nz_base.specs.Key.{id_eq}
use Rattle.nz_base.specs.declared.actor.Actor.{Actor}
use Rattle.nz_base.specs.declared.actor.Actor.TheVariants.{Replica, Proxy}
use Rattle.nz_base.specs.declared.key.Id.{Id}
use Rattle.nz_base.specs.declared.key.Entry.{Entry}
use Rattle.nz_log.specs.Places.{place_of}
use Rattle.nz_msg.specs.declared.envelope.Envelope.{Envelope}
use Rattle.nz_msg.specs.declared.message.Message.{Message}
use Rattle.nz_msg.specs.declared.message.Message.TheVariants.{FastReply, SlowReply}
use Rattle.nz_machine.specs.declared.event.Event.{Event}
use Rattle.nz_machine.specs.declared.event.Event.TheVariants.{Deliver}
use Rattle.nz_machine.specs.declared.event.Parcel.{Parcel}
use Rattle.nz_machine.specs.declared.event.Record.{Record}
use Rattle.nz_machine.specs.declared.reply.Reply.{Reply}
use Rattle.nz_machine.specs.rules.State.{Group, Standing, Open, Decided}
use Rattle.nz_machine.specs.rules.Quorums.{Chosen, decision, reply_eq, with_note}
use Rattle.nz_machine.specs.rules.Proxies.{standing_of, of_fast, of_slow}
use Rattle.nz_machine.specs.runs.World.{state_after}
use Rattle.nz_machine.specs.declared.client_event.ClientEvent.{ClientEvent}
use Rattle.nz_machine.specs.declared.client_event.ClientEvent.TheVariants.{Accepted}
use Rattle.nz_machine.specs.runs.Events.{read_in, client_events}

-- ---- where a parcel comes from

-- Whether two parcels are equal: sender, receiver and bytes.
abbrev pub parcel_eq : Parcel → Parcel → Bool
parcel_eq p q = actor_eq p.from q.from && (actor_eq p.to q.to && bytes_eq p.frame q.frame)

-- Whether the record sends the parcel.
abbrev pub sends_it : Parcel → Record → Bool
sends_it p r = list_any (parcel_eq p) r.sends

-- The older moment, if there is one.
abbrev pub older_or : Option (List Record) → List Record → Option (List Record)
older_or (Some K) now = Some K
older_or None now = Some now

-- The run up to the first record that sends the parcel, with that record.
abbrev pub source : Parcel → List Record → Option (List Record)
source p [] = None
source p (r ∷ J) = if sends_it p r then older_or (source p J) (r ∷ J) else source p J

-- ---- the decision of a proxy

-- What a proxy knows of a request after the records.
abbrev pub standing_after : Group → ℕ → Id → List Record → Option Standing
standing_after g p id J = standing_of (state_after g (Proxy p) J) id

-- Whether the proxy has decided the request.
abbrev pub is_decided : Option Standing → Bool
is_decided (Some (Decided answer path)) = true
is_decided _ = false

-- The run up to the record with which the proxy decided the request since it last restarted, where it has.
abbrev pub decision_moment : Group → ℕ → Id → List Record → Option (List Record)
decision_moment g p id [] = None
decision_moment g p id (r ∷ J) = if is_decided (standing_after g p id (r ∷ J)) then older_or (decision_moment g p id J) (r ∷ J) else None

-- The replies that are noted while a request is open.
abbrev pub replies_of : Option Standing → List Reply
replies_of (Some (Open replies)) = replies
replies_of _ = []

-- The reply to this request that a proxy reads, if it reads one.
abbrev pub reply_in : Id → Actor → Message → Option Reply
reply_in id (Replica r) (FastReply b) = if id_eq b.id id then Some (of_fast r b) else None
reply_in id (Replica r) (SlowReply b) = if id_eq b.id id then Some (of_slow r b) else None
reply_in id _ _ = None

-- The reply to this request in what a proxy reads.
abbrev pub reply_read : Id → Option Envelope → Option Reply
reply_read id None = None
reply_read id (Some e) = reply_in id e.from e.message

-- The replies with one more noted, if there is one.
abbrev pub with_reply_noted : List Reply → Option Reply → List Reply
with_reply_noted replies None = replies
with_reply_noted replies (Some reply) = with_note replies reply

-- The replies noted for the request, the last record's included.
abbrev pub replies_at_last : Group → ℕ → Id → List Record → List Reply
replies_at_last g p id [] = []
replies_at_last g p id (r ∷ J) = with_reply_noted (replies_of (standing_after g p id J)) (reply_read id (read_in g (Proxy p) r.event))

-- The leader's reply that the quorum names, at the moment of the decision.
abbrev pub deciding_reply : Group → ℕ → Id → List Record → Option Reply
deciding_reply g p id K = option_map (λ (chosen : Chosen). chosen.reply) (decision g.f (replies_at_last g p id K))

-- The run up to the record whose delivery noted the reply: before that record it is not noted.
abbrev pub noting_moment : Group → ℕ → Id → Reply → List Record → Option (List Record)
noting_moment g p id reply [] = None
noting_moment g p id reply (r ∷ J) =
    if list_any (reply_eq reply) (replies_of (standing_after g p id J)) then noting_moment g p id reply J else Some (r ∷ J)

-- ---- the accepted prefix

-- The parcel that an event delivers whole.
abbrev pub parcel_in : Event → Option Parcel
parcel_in (Deliver p) = Some p
parcel_in _ = None

-- The parcel that the last record delivers.
abbrev pub parcel_delivered : List Record → Option Parcel
parcel_delivered [] = None
parcel_delivered (r ∷ J) = parcel_in r.event

-- The log of a replica after the records. Other actors have none.
abbrev pub log_at : Group → Actor → List Record → List Entry
log_at g (Replica m) J = (state_after g (Replica m) J).log.entries
log_at g _ J = []

-- The entries up to and with the one at a place, none where there is no place.
abbrev pub cut_at : Option ℕ → List Entry → List Entry
cut_at None log = []
cut_at (Some place) log = take (suc place) log

-- The log up to and with the entry of the request.
abbrev pub cut_after : Id → List Entry → List Entry
cut_after id log = cut_at (place_of log id) log

-- Who sent a reply first, and the run up to that record, with it.
pub record ReplySource : Type 0 where
  pub sender : Actor
  pub run : List Record

-- The source of a parcel, with its sender.
abbrev pub source_of : List Record → Parcel → Option ReplySource
source_of J p = option_map (λ K. record { sender = p.from; run = K }) (source p J)

-- The source of the parcel that brought a reply.
abbrev pub source_of_reply : Group → ℕ → Id → List Record → Reply → Option ReplySource
source_of_reply g p id K reply = option_and_then (λ M. option_and_then (source_of M) (parcel_delivered M)) (noting_moment g p id reply K)

-- The source of the reply with which a proxy decided.
abbrev pub source_at_decision : Group → ℕ → Id → List Record → Option ReplySource
source_at_decision g p id K = option_and_then (source_of_reply g p id K) (deciding_reply g p id K)

-- The same, from the record that first sent the answer, which is of a proxy.
abbrev pub source_of_sender : Group → Id → Actor → List Record → Option ReplySource
source_of_sender g id (Proxy p) K = option_and_then (source_at_decision g p id) (decision_moment g p id K)
source_of_sender g id _ K = None

-- The source of the reply that an accepted answer comes from; the parcel brought the answer.
abbrev pub accepted_source : Group → Id → Parcel → List Record → Option ReplySource
accepted_source g id p J = option_and_then (source_of_sender g id p.from) (source p J)

-- The log of a reply's sender when it first sent the reply, up to and with the entry.
abbrev pub prefix_at_source : Group → Id → ReplySource → List Entry
prefix_at_source g id at = cut_after id (log_at g at.sender at.run)

-- The accepted prefix of an answer parcel that was accepted for this request.
abbrev pub accepted_prefix : Group → Id → Parcel → List Record → Option (List Entry)
accepted_prefix g id p J = option_map (prefix_at_source g id) (accepted_source g id p J)

-- The entries, none where there are none.
abbrev pub entries_or : Option (List Entry) → List Entry
entries_or None = []
entries_or (Some es) = es

-- The accepted prefix of a record that accepts, else nothing.
abbrev pub prefix_in : Group → List ClientEvent → Event → List Record → List Entry
prefix_in g (Accepted id answer path ∷ rest) (Deliver p) J = entries_or (accepted_prefix g id p J)
prefix_in g _ _ J = []

-- The longer of two lists, the old one where they are equally long.
abbrev pub longer : List Entry → List Entry → List Entry
longer old new = if nat_lt (length old) (length new) then new else old

-- The longest accepted prefix, the first of these among equals.
abbrev pub history : Group → List Record → List Entry
history g [] = []
history g (r ∷ J) = longer (history g J) (prefix_in g (client_events g r.actor r J) r.event J)
