-- A reply that a proxy noted was brought to it, and has a source, at which it was read off its sender's log.
use Rattle.std.proofs.Common.{◌≡◌, ℕ, Bool, true, false, cond, List, [], ◌∷◌, ◌++◌, Option, Some, None, refl, sym, ap, subst, ◌∙◌, inl, inr, ◌⊎◌}
use Rattle.std.proofs.lemmas.Bool.{cases_Bool, or_cases}
use Rattle.std.specs.List.{list_any}
use Rattle.std.specs.Option.{option_map, option_and_then}
use Rattle.std.proofs.lemmas.Option.{none-some, cond_some}
use Rattle.std.proofs.lemmas.List.Folds.{list_any-append}
use Rattle.nz_base.specs.declared.actor.Actor.{Actor}
use Rattle.nz_base.specs.declared.actor.Actor.TheVariants.{Replica, Proxy}
use Rattle.nz_base.specs.declared.key.Id.{Id}
use Rattle.nz_base.specs.Key.{id_eq}
use Rattle.nz_base.proofs.Names.{same_id}
use Rattle.nz_store.specs.declared.command.Answer.{Answer}
use Rattle.nz_msg.specs.declared.message.Message.{Message}
use Rattle.nz_msg.specs.declared.message.Message.TheVariants as messages
use Rattle.nz_msg.specs.declared.envelope.Envelope.{Envelope}
use Rattle.nz_machine.specs.declared.event.Parcel.{Parcel}
use Rattle.nz_machine.specs.declared.event.Event.{Event}
use Rattle.nz_machine.specs.declared.event.Event.TheVariants.{Deliver, Cut, Tick, Alarm, Crash, Restart}
use Rattle.nz_machine.specs.declared.event.Record.{Record}
use Rattle.nz_machine.specs.declared.reply.Reply.{Reply}
use Rattle.nz_machine.specs.rules.State.{ProxyData, Standing, Open, Group}
use Rattle.nz_machine.specs.rules.Quorums.{reply_eq, with_note, answer_in, view_of}
use Rattle.nz_machine.specs.rules.Proxies.{standing_of, of_fast, of_slow}
use Rattle.nz_machine.specs.rules.Step.{accepted_envelope}
use Rattle.nz_machine.specs.runs.World.{state_after, MayHappen, World}
use Rattle.nz_machine.specs.runs.Events.{read_in}
use Rattle.nz_machine.specs.runs.History.{source, standing_after, replies_of, reply_in, reply_read, noting_moment, parcel_in}
use Rattle.nz_machine.specs.runs.History.{parcel_delivered, ReplySource, source_of, source_of_reply, prefix_at_source}
use Rattle.nz_machine.proofs.runs.Runs.{may_act}
use Rattle.nz_base.specs.Moments.{At}
use Rattle.nz_base.proofs.Moments.{at_self}
use Rattle.nz_machine.proofs.runs.Moments.{at_world}
use Rattle.nz_machine.proofs.runs.Sources.{same_reply, has_source, source_stays}
use Rattle.nz_laws_commit.proofs.ReadMessages.{MessageSource, message_source}
use Rattle.nz_laws_commit.proofs.NotedWereSent.{IsSaid, said_later, said_by}
use Rattle.nz_laws_commit.proofs.Answering.{IsGiven, given_later, IsAnswering, reply_given}
use Rattle.nz_laws_commit.proofs.Standings.{StandingStep, Stays, Forgets, Opens, Notes, Decides, event_steps}

-- the reply is among some
abbrev pub IsNoted : Reply → List Reply → Type 0
IsNoted r replies = list_any (reply_eq r) replies ≡ true

-- ---- what is read

answering_by : (id : Id) (e : Envelope) (from : Actor) (m : Message) (r : Reply) (a : Answer) → e.from ≡ from → e.message ≡ m
    → reply_in id from m ≡ Some r → answer_in r ≡ Some a → IsAnswering e (view_of r) id a
answering_by id e (Replica k) (messages.FastReply b) r a from is said answer =
    let c = cond_some (id_eq b.id id) (of_fast k b) r said in
    record { replica = k; body = b; sender = from; message = is; view = ap view_of c.1; same = same_id b.id id c.0; answer = ap answer_in c.1 ∙ answer }
answering_by id e (Replica k) (messages.SlowReply b) r a from is said answer =
    let c = cond_some (id_eq b.id id) (of_slow k b) r said in absurd (none-some a (ap answer_in c.1 ∙ answer))
answering_by id e _ _ r a from is said answer = absurd (none-some r said)

-- an event delivers a parcel that is read as this envelope
pub record Delivers (g : Group) (a : Actor) (event : Event) (e : Envelope) : Type 0 where
  pub parcel : Parcel
  pub is : event ≡ Deliver parcel
  pub heard : accepted_envelope g.f a parcel ≡ Some e

-- an event in which an envelope is read delivers its parcel
pub delivers : (g : Group) (a : Actor) (event : Event) (e : Envelope) → read_in g a event ≡ Some e → Delivers g a event e
delivers g a (Deliver p) e h = record { parcel = p; is = refl; heard = h }
delivers g a (Cut kept p) e h = absurd (none-some e h)
delivers g a (Tick clock) e h = absurd (none-some e h)
delivers g a Alarm e h = absurd (none-some e h)
delivers g a Crash e h = absurd (none-some e h)
delivers g a (Restart nonce) e h = absurd (none-some e h)

read_is : (id : Id) (o : Option Envelope) (r : Reply) → reply_read id o ≡ Some r
    → (e : Envelope) × ((o ≡ Some e) × (reply_in id e.from e.message ≡ Some r))
read_is id None r h = absurd (none-some r h)
read_is id (Some e) r h = (e, (refl, h))

-- ---- the moment when a reply was noted

-- the record brings the reply to the proxy
pub record Brings (g : Group) (q : ℕ) (id : Id) (reply : Reply) (J M : List Record) : Type 0 where
  pub newest : Record
  pub older : List Record
  pub is : M ≡ newest ∷ older
  pub at : At J (newest ∷ older)
  pub by : newest.actor ≡ Proxy q
  pub heard : reply_read id (read_in g (Proxy q) newest.event) ≡ Some reply

pub record HasMoment (g : Group) (q : ℕ) (id : Id) (reply : Reply) (J : List Record) : Type 0 where
  pub moment : List Record
  pub is : noting_moment g q id reply J ≡ Some moment
  pub brings : Brings g q id reply J moment

later : (g : Group) (q : ℕ) (id : Id) (reply : Reply) (r : Record) (J : List Record) → IsNoted reply (replies_of (standing_after g q id J))
    → HasMoment g q id reply J → HasMoment g q id reply (r ∷ J)
later g q id reply r J noted h =
    let b = h.brings in
    record {
      moment = h.moment;
      is = ap (λ t. cond t (noting_moment g q id reply J) (Some (r ∷ J))) noted ∙ h.is;
      brings = record { newest = b.newest; older = b.older; is = b.is; at = inr b.at; by = b.by; heard = b.heard };
    }

now : (g : Group) (q : ℕ) (id : Id) (reply : Reply) (r : Record) (J : List Record)
    → list_any (reply_eq reply) (replies_of (standing_after g q id J)) ≡ false → r.actor ≡ Proxy q
    → reply_read id (read_in g (Proxy q) r.event) ≡ Some reply → HasMoment g q id reply (r ∷ J)
now g q id reply r J none by heard = record {
  moment = r ∷ J;
  is = ap (λ t. cond t (noting_moment g q id reply J) (Some (r ∷ J))) none;
  brings = record { newest = r; older = J; is = refl; at = at_self (r ∷ J); by = by; heard = heard };
}

with_note_cases : (replies : List Reply) (n reply : Reply) (b : Bool) → IsNoted reply (cond b replies (replies ++ n ∷ []))
    → IsNoted reply replies ⊎ (n ≡ reply)
with_note_cases replies n reply true h = inl h
with_note_cases replies n reply false h = elim
    (or_cases (list_any (reply_eq reply) replies) (list_any (reply_eq reply) (n ∷ [])) (sym (list_any-append (reply_eq reply) replies (n ∷ [])) ∙ h)) [
      | inl a ↦ inl a
      | inr b ↦ elim (or_cases (reply_eq reply n) false b) [ inl same ↦ inr (sym (same_reply reply n same)) | inr none ↦ absurd cc ]
    ]

-- a reply that is noted once the record was handled, over an open request
pub moment_of : (g : Group) (q : ℕ) (id : Id) (r : Record) (J : List Record) (replies : List Reply) (n reply : Reply) → r.actor ≡ Proxy q
    → standing_after g q id J ≡ Some (Open replies) → reply_read id (read_in g (Proxy q) r.event) ≡ Some n
    → (IsNoted reply (replies_of (standing_after g q id J)) → HasMoment g q id reply J) → IsNoted reply (with_note replies n) → HasMoment g q id reply (r ∷ J)
moment_of g q id r J replies n reply by before heard old noted =
    let same : replies_of (standing_after g q id J) ≡ replies = ap replies_of before in
    elim (cases_Bool (list_any (reply_eq reply) (replies_of (standing_after g q id J)))) [
      | inl there ↦ later g q id reply r J there (old there)
      | inr none ↦ elim (with_note_cases replies n reply (list_any (reply_eq n) replies) noted) [
        | inl there ↦ absurd (let t : true ≡ false = sym there ∙ ap (list_any (reply_eq reply)) (sym same) ∙ none in cc)
        | inr own ↦ now g q id reply r J none by (heard ∙ ap Some own)
      ]
    ]

-- what is known before and after a record
pub standing_steps : (g : Group) (r : Record) (J : List Record) (q : ℕ) (id : Id)
    → ((r.actor ≡ Proxy q) × StandingStep g.f (reply_read id (read_in g (Proxy q) r.event)) (standing_after g q id J) (standing_after g q id (r ∷ J))) ⊎
    (standing_after g q id (r ∷ J) ≡ standing_after g q id J)
standing_steps g r J q id = elim (may_act g (Proxy q) r J).cases [
  | inl a ↦ inl (
    a.0,
    subst (λ (s : ProxyData). StandingStep g.f (reply_read id (read_in g (Proxy q) r.event)) (standing_after g q id J) (standing_of s id))
        (sym a.1) (event_steps g q (state_after g (Proxy q) J) id r.event),
  )
  | inr s ↦ inr (ap (λ (t : ProxyData). standing_of t id) s)
]

after_steps : (g : Group) (r : Record) (J : List Record) (q : ℕ) (id : Id) (reply : Reply) → r.actor ≡ Proxy q
    → StandingStep g.f (reply_read id (read_in g (Proxy q) r.event)) (standing_after g q id J) (standing_after g q id (r ∷ J))
    → (IsNoted reply (replies_of (standing_after g q id J)) → HasMoment g q id reply J) → IsNoted reply (replies_of (standing_after g q id (r ∷ J)))
    → HasMoment g q id reply (r ∷ J)
after_steps g r J q id reply by (Stays e) old noted =
    let there = subst (λ (o : Option Standing). IsNoted reply (replies_of o)) e noted in later g q id reply r J there (old there)
after_steps g r J q id reply by (Forgets after) old noted = absurd (let t = subst (λ (o : Option Standing). IsNoted reply (replies_of o)) after noted in cc)
after_steps g r J q id reply by (Opens before after) old noted = absurd
    (let t = subst (λ (o : Option Standing). IsNoted reply (replies_of o)) after noted in cc)
after_steps g r J q id reply by (Notes replies n before heard after) old noted =
    moment_of g q id r J replies n reply by before heard old (subst (λ (o : Option Standing). IsNoted reply (replies_of o)) after noted)
after_steps g r J q id reply by (Decides replies n chosen a before heard d is after) old noted = absurd
    (let t = subst (λ (o : Option Standing). IsNoted reply (replies_of o)) after noted in cc)

-- each noted reply has its moment
pub has_moment : (g : Group) (J : List Record) (q : ℕ) (id : Id) (reply : Reply) → IsNoted reply (replies_of (standing_after g q id J))
    → HasMoment g q id reply J
unfolding state_after
has_moment g [] q id reply noted = absurd cc
has_moment g (r ∷ J) q id reply noted = elim (standing_steps g r J q id) [
  | inl m ↦ after_steps g r J q id reply m.0 m.1 (has_moment g J q id reply) noted
  | inr s ↦ let there = subst (λ (o : Option Standing). IsNoted reply (replies_of o)) s noted in later g q id reply r J there (has_moment g J q id reply there)
]

-- ---- its source

-- the source of a noted reply
pub record IsBrought (g : Group) (J : List Record) (q : ℕ) (id : Id) (reply : Reply) : Type 0 where
  pub parcel : Parcel
  pub run : List Record
  pub is : source_of_reply g q id J reply ≡ Some (record { sender = parcel.from; run = run })
  pub said : IsSaid g J id reply parcel.from run
  pub moment : List Record
  pub at : At J moment
  pub envelope : Envelope
  pub sent : MessageSource g moment run parcel envelope
  pub read : reply_in id envelope.from envelope.message ≡ Some reply

pub noted_brought : (g : Group) (J : List Record) (q : ℕ) (id : Id) (reply : Reply) → World g J → HasMoment g q id reply J → IsBrought g J q id reply
noted_brought g J q id reply w h =
    let b = h.brings in
    let moment = b.newest ∷ b.older in
    let known : World g moment = at_world g J moment w b.at in
    let t = read_is id (read_in g (Proxy q) b.newest.event) reply b.heard in
    let e = t.0 in
    let d = delivers g (Proxy q) b.newest.event e t.1.0 in
    let p = d.parcel in
    let may : MayHappen b.older b.newest.actor (Deliver p) = subst (MayHappen b.older b.newest.actor) d.is known.0.event in
    let s = has_source p b.older may.1 in
    let found : source p moment ≡ Some s.0 = source_stays p b.newest b.older s.0 s.1 in
    let sent = message_source g moment known (Proxy q) p e d.heard s.0 found in
    record {
      parcel = p;
      run = s.0;
      is = ap (option_and_then (λ M. option_and_then (source_of M) (parcel_delivered M))) (h.is ∙ ap Some b.is)
          ∙ ap (λ (x : Event). option_and_then (source_of moment) (parcel_in x)) d.is
          ∙ ap (option_map (λ (K : List Record). record { sender = p.from; run = K })) found;
      said = said_later g J moment id reply p.from s.0 b.at (said_by g moment s.0 p e e.from e.message id reply known sent refl refl t.1.1);
      moment = moment;
      at = b.at;
      envelope = e;
      sent = sent;
      read = t.1.1;
    }

-- the source of a reply with an answer, and what the answer is given from
pub record HasSource (g : Group) (J : List Record) (q : ℕ) (id : Id) (reply : Reply) (a : Answer) : Type 0 where
  pub source : ReplySource
  pub is : source_of_reply g q id J reply ≡ Some source
  pub said : IsSaid g J id reply source.sender source.run
  pub given : IsGiven g J (view_of reply) id a (prefix_at_source g id source)

pub noted_source : (g : Group) (J : List Record) (q : ℕ) (id : Id) (reply : Reply) (a : Answer) → World g J → HasMoment g q id reply J
    → answer_in reply ≡ Some a → HasSource g J q id reply a
noted_source g J q id reply a w h answer =
    let b = noted_brought g J q id reply w h in
    let e = b.envelope in
    let known : World g b.moment = at_world g J b.moment w b.at in
    let answering = answering_by id e e.from e.message reply a refl refl b.read answer in
    let at : ReplySource = (record { sender = b.parcel.from; run = b.run }) in
    record {
      source = at;
      is = b.is;
      said = b.said;
      given = given_later g J b.moment b.at (view_of reply) id a (prefix_at_source g id at)
          (reply_given g b.moment b.run b.parcel e (view_of reply) id a known b.sent answering);
    }
