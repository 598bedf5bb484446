-- What an event makes of what a proxy knows of a request.
use Rattle.std.proofs.Common.{◌≡◌, ℕ, Bool, true, false, cond, List, [], ◌∷◌, map, Option, Some, None, refl, sym, ap, subst, ◌∙◌}
use Rattle.std.specs.Prelude.{is_some}
use Rattle.std.specs.Option.{option_map, option_flatten}
use Rattle.std.proofs.lemmas.Option.{none-some}
use Rattle.nz_base.specs.Key.{id_eq}
use Rattle.nz_base.specs.declared.actor.Actor.{Actor}
use Rattle.nz_base.specs.declared.actor.Actor.TheVariants.{Replica, Proxy, Client}
use Rattle.nz_base.specs.declared.key.Id.{Id}
use Rattle.nz_msg.specs.declared.envelope.Envelope.{Envelope}
use Rattle.nz_msg.specs.declared.message.Message.{Message}
use Rattle.nz_msg.specs.declared.message.Message.TheVariants.{Request, FastReply, SlowReply}
use Rattle.nz_machine.specs.declared.event.Event.{Event}
use Rattle.nz_machine.specs.declared.event.Event.TheVariants.{Deliver, Cut, Tick, Alarm, Crash, Restart}
use Rattle.nz_machine.specs.declared.event.Parcel.{Parcel}
use Rattle.nz_machine.specs.declared.event.Record.{Record}
use Rattle.nz_machine.specs.declared.reply.Reply.{Reply}
use Rattle.nz_machine.specs.rules.State.{ProxyData, Group, Out}
use Rattle.nz_machine.specs.rules.Quorums.{answer_in}
use Rattle.nz_machine.specs.rules.Proxies.{standing_of, of_fast, of_slow, clock_rule, first_proxy}
use Rattle.nz_machine.specs.rules.Step.{proxy_message, accepted_envelope, envelope_step, event_step, parcel, node_step}
use Rattle.nz_machine.specs.runs.World.{state_after, sent_in, Has, MayHappen, World}
use Rattle.nz_machine.specs.runs.Events.{read_in}
use Rattle.nz_machine.specs.runs.History as history
use Rattle.nz_machine.specs.runs.History.{standing_after, reply_in, reply_read, parcel_in, parcel_delivered, source_of}
use Rattle.nz_machine.proofs.runs.Runs.{acts_itself}
use Rattle.nz_audit.specs.declared.accepted.answers.Source.{Source}
use Rattle.nz_audit.specs.Sources.{in_numbers, about, IsNoOther, stands_for}
use Rattle.nz_audit.specs.Noting.{noted_after_request, noted_by, source_if_answer, after_message, after_envelope, after_event, down_after}
use Rattle.nz_audit.specs.Memories.{memory_of, memory}
use Rattle.nz_audit.proofs.ProxyMemories.{standing_opened, standing_noted, StaysOpen, memory_stays, memory_opens, memory_notes}
use Rattle.nz_audit.proofs.ProxyMessages.{stamp_opens, reply_notes, reply_silent, stamp_up, reply_up}
use Rattle.nz_audit.proofs.HeardParcels.{wanted_read, source_read}

-- the source that goes with what is delivered
abbrev pub IsFrom : Group → ℕ → Id → Record → List Record → Parcel → Option Source → Type 0
IsFrom g q id r J p source =
    (reply : Reply) → reply_read id (read_in g (Proxy q) r.event) ≡ Some reply
    → source ≡ cond (is_some (answer_in reply)) (in_numbers (source_of (r ∷ J) p)) None

-- ---- a message

after_request : (g : Group) (q : ℕ) (id own : Id) (r : Record) (J : List Record) (b : Bool)
    → standing_after g q id (r ∷ J) ≡ cond b (standing_opened (standing_after g q id J)) (standing_after g q id J)
    → memory g q id (r ∷ J) ≡ cond b (noted_after_request g.f (memory g q id J)) (memory g q id J)
after_request g q id own r J true after = memory_opens g q id r J after
after_request g q id own r J false after = memory_stays g q id r J after

-- a source that only a reply with an answer has
either_way : (b : Bool) (source from : Option Source) → source ≡ cond b from None → cond b source None ≡ cond b from None
either_way true source from e = e
either_way false source from e = refl

after_reply : (g : Group) (q : ℕ) (id : Id) (r : Record) (J : List Record) (p : Parcel) (reply : Reply) (source : Option Source)
    (silent b : Bool) → parcel_delivered (r ∷ J) ≡ Some p
    → reply_read id (read_in g (Proxy q) r.event) ≡ cond b (Some reply) None → IsFrom g q id r J p source
    → (b ≡ true → StaysOpen g q id J reply silent)
    → standing_after g q id (r ∷ J) ≡ cond b (standing_noted g.f reply (standing_after g q id J)) (standing_after g q id J)
    → memory g q id (r ∷ J) ≡ cond b (option_map (noted_by silent reply (source_if_answer source reply)) (memory g q id J)) (memory g q id J)
after_reply g q id r J p reply source silent true parcel read from still after =
    memory_notes g q id r J p reply (source_if_answer source reply) silent
    (record {
      parcel = parcel;
      read = read;
      from = either_way (is_some (answer_in reply)) source (in_numbers (source_of (r ∷ J) p)) (from reply read);
    }) (still refl) after
after_reply g q id r J p reply source silent false parcel read from still after = memory_stays g q id r J after

-- the proxy sends nothing
abbrev pub IsSilent : Bool → List Out → Type 0
IsSilent silent sent = silent ≡ true → sent ≡ []

message_memory : (g : Group) (q : ℕ) (id : Id) (r : Record) (J : List Record) (p : Parcel) (source : Option Source) (silent : Bool)
    (from : Actor) (m : Message) → parcel_delivered (r ∷ J) ≡ Some p
    → reply_read id (read_in g (Proxy q) r.event) ≡ reply_in id from m → IsFrom g q id r J p source
    → IsSilent silent (proxy_message g.f (state_after g (Proxy q) J) from m).1
    → standing_after g q id (r ∷ J) ≡ standing_of (proxy_message g.f (state_after g (Proxy q) J) from m).0 id
    → memory g q id (r ∷ J) ≡ after_message g.f source silent id from m (memory g q id J)
message_memory g q id r J p source silent (Client c) (Request b) parcel read by none_sent after =
    let own : Id = record { client = c; num = b.num } in
    after_request g q id own r J (id_eq own id) (after ∙ stamp_opens g.f (state_after g (Proxy q) J) c b id)
message_memory g q id r J p source silent (Replica k) (FastReply b) parcel read by none_sent after =
    after_reply g q id r J p (of_fast k b) source silent (id_eq b.id id) parcel read by
    (λ same is replies. reply_silent g.f (state_after g (Proxy q) J) k b.id b.delay (of_fast k b) id replies same (none_sent is))
    (after ∙ reply_notes g.f (state_after g (Proxy q) J) k b.id b.delay (of_fast k b) id)
message_memory g q id r J p source silent (Replica k) (SlowReply b) parcel read by none_sent after =
    after_reply g q id r J p (of_slow k b) source silent (id_eq b.id id) parcel read by
    (λ same is replies. reply_silent g.f (state_after g (Proxy q) J) k b.id b.delay (of_slow k b) id replies same (none_sent is))
    (after ∙ reply_notes g.f (state_after g (Proxy q) J) k b.id b.delay (of_slow k b) id)
message_memory g q id r J p source silent _ _ parcel read by none_sent after = memory_stays g q id r J after

-- a proxy that is down hears nothing
up_memory : (g : Group) (q : ℕ) (id : Id) (r : Record) (J : List Record) (p : Parcel) (source : Option Source) (silent : Bool) (e : Envelope)
    (down : Bool) → parcel_delivered (r ∷ J) ≡ Some p
    → reply_read id (read_in g (Proxy q) r.event) ≡ reply_in id e.from e.message → IsFrom g q id r J p source
    → IsSilent silent (cond down (state_after g (Proxy q) J, []) (proxy_message g.f (state_after g (Proxy q) J) e.from e.message)).1
    → standing_after g q id (r ∷ J)
    ≡ standing_of (cond down (state_after g (Proxy q) J, []) (proxy_message g.f (state_after g (Proxy q) J) e.from e.message)).0 id
    → memory g q id (r ∷ J) ≡ cond down (memory g q id J) (after_message g.f source silent id e.from e.message (memory g q id J))
up_memory g q id r J p source silent e true parcel read by none_sent after = memory_stays g q id r J after
up_memory g q id r J p source silent e false parcel read by none_sent after =
    message_memory g q id r J p source silent e.from e.message parcel read by none_sent after

envelope_memory : (g : Group) (q : ℕ) (id : Id) (r : Record) (J : List Record) (p : Parcel) (source : Option Source) (silent : Bool)
    (o : Option Envelope) → parcel_delivered (r ∷ J) ≡ Some p → read_in g (Proxy q) r.event ≡ o → IsFrom g q id r J p source
    → IsSilent silent (envelope_step g (Proxy q) (state_after g (Proxy q) J) o).1
    → standing_after g q id (r ∷ J) ≡ standing_of (envelope_step g (Proxy q) (state_after g (Proxy q) J) o).0 id
    → memory g q id (r ∷ J) ≡ after_envelope g.f source silent (state_after g (Proxy q) J).is_down id o (memory g q id J)
envelope_memory g q id r J p source silent None parcel read by none_sent after = memory_stays g q id r J after
envelope_memory g q id r J p source silent (Some e) parcel read by none_sent after =
    up_memory g q id r J p source silent e (state_after g (Proxy q) J).is_down parcel (ap (reply_read id) read) by none_sent after

-- ---- an event

-- the source is that of what is delivered, unless this is about another request
abbrev pub source_in : Group → (Id → Bool) → List Record → Event → Option Source → Type 0
source_in g w J (Deliver p) source = IsNoOther w (about p) → source ≡ option_flatten (stands_for g p (history.source p J) (about p))
source_in g w J _ source = Unit {0}

forgotten : (g : Group) (q : ℕ) (id : Id) (r : Record) (J : List Record) → standing_after g q id (r ∷ J) ≡ None → memory g q id (r ∷ J) ≡ None
forgotten g q id r J after = ap (memory_of g q id (r ∷ J)) after

restarted : (g : Group) (q : ℕ) (id : Id) (r : Record) (J : List Record) (down : Bool)
    → standing_after g q id (r ∷ J) ≡ standing_of (cond down (first_proxy g.f) (state_after g (Proxy q) J)) id
    → memory g q id (r ∷ J) ≡ cond down None (memory g q id J)
restarted g q id r J true after = forgotten g q id r J after
restarted g q id r J false after = memory_stays g q id r J after

ticked : (g : Group) (q : ℕ) (id : Id) (r : Record) (J : List Record) (clock : ℕ) (down : Bool)
    → standing_after g q id (r ∷ J)
    ≡ standing_of (cond {A = ProxyData × List Out} down (state_after g (Proxy q) J, []) (clock_rule (state_after g (Proxy q) J) clock, [])).0 id
    → memory g q id (r ∷ J) ≡ memory g q id J
unfolding clock_rule
ticked g q id r J clock true after = memory_stays g q id r J after
ticked g q id r J clock false after = memory_stays g q id r J after

event_by : (g : Group) (w : Id → Bool) (q : ℕ) (id : Id) (r : Record) (J : List Record) (source : Option Source) (silent : Bool) (e : Event)
    → World g (r ∷ J) → w id ≡ true → r.event ≡ e → source_in g w J e source
    → IsSilent silent (event_step g (Proxy q) (state_after g (Proxy q) J) e).1
    → standing_after g q id (r ∷ J) ≡ standing_of (event_step g (Proxy q) (state_after g (Proxy q) J) e).0 id
    → memory g q id (r ∷ J) ≡ after_event g.f q source silent (state_after g (Proxy q) J).is_down id e (memory g q id J)
event_by g w q id r J source silent (Deliver p) world wanted is from none_sent after =
    envelope_memory g q id r J p source silent (accepted_envelope g.f (Proxy q) p) (ap parcel_in is) (ap (read_in g (Proxy q)) is) brings none_sent after
  where
    sent : Has (sent_in J) p
    sent = (subst (MayHappen J r.actor) is world.0.event).1

    brings : IsFrom g q id r J p source
    brings reply read = heard (accepted_envelope g.f (Proxy q) p) refl (ap (λ (x : Event). reply_read id (read_in g (Proxy q) x)) (sym is) ∙ read)
      where
        heard : (o : Option Envelope) → accepted_envelope g.f (Proxy q) p ≡ o → reply_read id o ≡ Some reply
            → source ≡ cond (is_some (answer_in reply)) (in_numbers (source_of (r ∷ J) p)) None
        heard None h k = absurd (none-some reply k)
        heard (Some e) h k = from (wanted_read w g.f q id p e reply h k wanted) ∙ source_read g q id r J p e reply sent h k
event_by g w q id r J source silent (Cut kept p) world wanted is from none_sent after = memory_stays g q id r J after
event_by g w q id r J source silent (Tick clock) world wanted is from none_sent after = ticked g q id r J clock (state_after g (Proxy q) J).is_down after
event_by g w q id r J source silent Alarm world wanted is from none_sent after = memory_stays g q id r J after
event_by g w q id r J source silent Crash world wanted is from none_sent after = forgotten g q id r J after
event_by g w q id r J source silent (Restart nonce) world wanted is from none_sent after = restarted g q id r J (state_after g (Proxy q) J).is_down after

-- what a proxy knows of a wanted request after a record of its own
pub memory_after : (g : Group) (w : Id → Bool) (q : ℕ) (id : Id) (r : Record) (J : List Record) (source : Option Source) (silent : Bool)
    → World g (r ∷ J) → w id ≡ true → r.actor ≡ Proxy q → source_in g w J r.event source → (silent ≡ true → r.sends ≡ [])
    → memory g q id (r ∷ J) ≡ after_event g.f q source silent (state_after g (Proxy q) J).is_down id r.event (memory g q id J)
memory_after g w q id r J source silent world wanted by from none =
    event_by g w q id r J source silent r.event world wanted refl from
    (λ is. nothing_sent (Proxy q) (event_step g (Proxy q) (state_after g (Proxy q) J) r.event).1 (sym own_sends ∙ none is))
    (ap (λ (s : ProxyData). standing_of s id) (acts_itself g (Proxy q) r J by))
  where
    own_sends : r.sends ≡ map (parcel (Proxy q)) (event_step g (Proxy q) (state_after g (Proxy q) J) r.event).1
    own_sends = world.0.sends ∙ ap (λ (a : Actor). (node_step g a (state_after g a J) r.event).1) by

    nothing_sent : (a : Actor) (outs : List Out) → map (parcel a) outs ≡ [] → outs ≡ []
    nothing_sent a [] h = refl
    nothing_sent a (o ∷ os) h = absurd cc

-- ---- whether a proxy is down

message_up : (f : ℕ) (s : ProxyData) (from : Actor) (m : Message) → (proxy_message f s from m).0.is_down ≡ s.is_down
message_up f s (Client c) (Request b) = stamp_up f s c b
message_up f s (Replica k) (FastReply b) = reply_up f s k b.id b.delay (of_fast k b)
message_up f s (Replica k) (SlowReply b) = reply_up f s k b.id b.delay (of_slow k b)
message_up f s _ _ = refl

either_up : (s : ProxyData) (t : ProxyData × List Out) (down : Bool) → t.0.is_down ≡ s.is_down → (cond down (s, []) t).0.is_down ≡ s.is_down
either_up s t true h = refl
either_up s t false h = h

envelope_up : (g : Group) (q : ℕ) (s : ProxyData) (o : Option Envelope) → (envelope_step g (Proxy q) s o).0.is_down ≡ s.is_down
envelope_up g q s None = refl
envelope_up g q s (Some e) = either_up s (proxy_message g.f s e.from e.message) s.is_down (message_up g.f s e.from e.message)

restarts_up : (f : ℕ) (s : ProxyData) (down : Bool) → s.is_down ≡ down → (cond down (first_proxy f) s).is_down ≡ false
restarts_up f s true h = refl
restarts_up f s false h = h

up_after : (g : Group) (q : ℕ) (s : ProxyData) (e : Event) → (event_step g (Proxy q) s e).0.is_down ≡ down_after e s.is_down
unfolding clock_rule
up_after g q s (Deliver p) = envelope_up g q s (accepted_envelope g.f (Proxy q) p)
up_after g q s (Cut kept p) = refl
up_after g q s (Tick clock) = either_up s (clock_rule s clock, []) s.is_down refl
up_after g q s Alarm = refl
up_after g q s Crash = refl
up_after g q s (Restart nonce) = restarts_up g.f s s.is_down refl

pub down_then : (g : Group) (q : ℕ) (r : Record) (J : List Record) → r.actor ≡ Proxy q
    → (state_after g (Proxy q) (r ∷ J)).is_down ≡ down_after r.event (state_after g (Proxy q) J).is_down
down_then g q r J by = ap (λ (s : ProxyData). s.is_down) (acts_itself g (Proxy q) r J by) ∙ up_after g q (state_after g (Proxy q) J) r.event
