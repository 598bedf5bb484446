-- Each accepted answer is given from the log of the leader of the view in which it was decided.
use Rattle.std.proofs.Common.{◌≡◌, ℕ, ◌<◌, ◌≤◌, List, [], ◌∷◌, ◌++◌, length, Option, Some, refl, sym, ap, subst, ◌∙◌, arith, inl, inr}
use Rattle.std.specs.Option.{option_map, option_and_then}
use Rattle.nz_base.specs.Cluster.{leader_of}
use Rattle.nz_base.specs.declared.actor.Actor.{Actor}
use Rattle.nz_base.specs.declared.actor.Actor.TheVariants.{Client}
use Rattle.nz_base.specs.declared.key.Id.{Id}
use Rattle.nz_base.specs.declared.key.Entry.{Entry}
use Rattle.nz_base.specs.Key.{id_of}
use Rattle.nz_base.specs.Log.{keys_of, HaveOwnIds}
use Rattle.nz_base.proofs.Logs.{own_in_prefix, keys_append}
use Rattle.nz_store.specs.declared.command.Answer.{Answer}
use Rattle.nz_msg.specs.declared.message.Path.{Path}
use Rattle.nz_msg.specs.declared.envelope.Envelope.{Envelope}
use Rattle.nz_machine.specs.declared.event.Event.{Event}
use Rattle.nz_machine.specs.declared.event.Event.TheVariants.{Deliver}
use Rattle.nz_machine.specs.declared.event.Parcel.{Parcel}
use Rattle.nz_machine.specs.declared.event.Record.{Record}
use Rattle.nz_machine.specs.rules.State.{ClientData, Group}
use Rattle.nz_machine.specs.rules.Step.{accepted_envelope, envelope_step, event_step}
use Rattle.nz_machine.specs.runs.World.{state_after, Has, MayHappen, World}
use Rattle.nz_machine.specs.declared.client_event.ClientEvent.{ClientEvent}
use Rattle.nz_machine.specs.declared.client_event.ClientEvent.TheVariants.{Sent, Accepted}
use Rattle.nz_machine.specs.runs.Events.{id_at, client_events, events}
use Rattle.nz_machine.specs.declared.reply.Reply.{Reply}
use Rattle.nz_machine.specs.rules.Quorums.{view_of}
use Rattle.nz_machine.specs.runs.Committed.{view_of_sender, accepted_view, AcceptsIn, IsAcceptedIn}
use Rattle.nz_machine.specs.runs.History.{ReplySource, source_of_sender, accepted_source, prefix_at_source, accepted_prefix, entries_or, prefix_in}
use Rattle.nz_machine.specs.runs.OneHistory.{IsAccepted}
use Rattle.nz_machine.proofs.runs.Runs.{acts_itself, delivered, has_left}
use Rattle.nz_base.specs.Moments.{At}
use Rattle.nz_base.proofs.Moments.{at_self}
use Rattle.nz_machine.proofs.runs.Moments.{at_world}
use Rattle.nz_machine.proofs.runs.Sources.{has_source}
use Rattle.nz_machine.proofs.runs.FitRuns.{Fitted, FittedState, fits_keep, all_fit}
use Rattle.std.proofs.lemmas.Option.{none-some, same_Some}
use Rattle.nz_machine.specs.runs.Leading.{leader_at}
use Rattle.nz_base.proofs.Prefixes.{prefix_length}
use Rattle.nz_base.specs.declared.limits.TheConstants.{MAX_ENTRIES}
use Rattle.nz_laws_commit.proofs.Places.{own_prefix}
use Rattle.nz_laws_commit.proofs.ReadMessages.{message_source}
use Rattle.nz_laws_commit.proofs.FactsStay.{facts_stay}
use Rattle.nz_laws_commit.proofs.Answering.{IsGiven, given_later}
use Rattle.nz_laws_commit.proofs.ReplySources.{delivers}
use Rattle.nz_laws_commit.proofs.NotedWereSent.{IsBacked, backed_later}
use Rattle.nz_laws_commit.proofs.AnswersSent.{LeadsBack, answer_source}
use Rattle.nz_machine.proofs.journals.Accepting.{IsAnswerTo, client_accepts}
use Rattle.nz_laws_commit.proofs.ClientEvents.{AcceptsAnswer, event_accepted}
use Rattle.nz_laws_commit.proofs.OwnCommands.{WasSent, own_command}

-- ---- what a leader's log has, up to an entry

pub events_later : (g : Group) (J K : List Record) → At J K → (x : ClientEvent) → Has (events g K) x → Has (events g J) x
events_later g [] K at x h = subst (λ (L : List Record). Has (events g L) x) at h
events_later g (r ∷ J) K (inl same) x h = subst (λ (L : List Record). Has (events g L) x) same h
events_later g (r ∷ J) K (inr older) x h = has_left (events g J) (client_events g r.actor r J) x (events_later g J K older x h)

-- each entry was sent
pub given_sent : (g : Group) (J : List Record) → World g J → (v : ℕ) (id : Id) (a : Answer) (P : List Entry) → IsGiven g J v id a P → (e : Entry)
    → Has P e → WasSent (events g J) e
given_sent g J w v id a P h e there =
    let log = (leader_at g v h.moment).log.entries in
    let in_log : Has log e = subst (λ (l : List Entry). Has l e) (sym h.from.prefix.whole) (has_left P h.from.prefix.rest e there) in
    let sent = own_command g h.moment (leader_of g.f v) e (at_world g J h.moment w h.at) in_log in
    events_later g J h.moment h.at (Sent (id_of e.key) e.command) sent

-- no id is in it twice
pub given_own : (g : Group) (J : List Record) → World g J → (v : ℕ) (id : Id) (a : Answer) (P : List Entry) → IsGiven g J v id a P
    → HaveOwnIds (keys_of P)
given_own g J w v id a P h =
    let s = leader_at g v h.moment in
    let facts = facts_stay g h.moment (leader_of g.f v) (at_world g J h.moment w h.at) in
    let all = subst HaveOwnIds (keys_append s.log.entries (s.early ++ s.late)) facts.entries.arranged.own_ids in
    own_prefix P s.log.entries h.from.prefix (own_in_prefix (keys_of s.log.entries) (keys_of (s.early ++ s.late)) all)

pub given_few : (g : Group) (J : List Record) → World g J → (v : ℕ) (id : Id) (a : Answer) (P : List Entry) → IsGiven g J v id a P
    → length P ≤ MAX_ENTRIES
given_few g J w v id a P h =
    let s = leader_at g v h.moment in
    let few = (facts_stay g h.moment (leader_of g.f v) (at_world g J h.moment w h.at)).entries.few in
    let short = prefix_length P s.log.entries h.from.prefix in
    omega (arith, few, short)

-- ---- the prefix of an acceptance

pub record Gives (g : Group) (r : Record) (J : List Record) (id : Id) (a : Answer) : Type 0 where
  pub parcel : Parcel
  pub event : r.event ≡ Deliver parcel
  pub prefix : List Entry
  pub found : accepted_prefix g id parcel J ≡ Some prefix
  pub is : prefix_in g (client_events g r.actor r J) r.event J ≡ prefix
  pub reply : Reply
  pub source : ReplySource
  pub leads : accepted_source g id parcel J ≡ Some source
  pub at_source : prefix ≡ prefix_at_source g id source
  pub view : accepted_view g id parcel J ≡ Some (view_of reply)
  pub backed : IsBacked g J id reply source
  pub given : IsGiven g J (view_of reply) id a prefix

-- what is read of a parcel is sent to the reader
read_to : (g : Group) (J : List Record) (a : Actor) (p : Parcel) (e : Envelope) → World g J → MayHappen J a (Deliver p) → accepted_envelope g.f a p ≡ Some e
    → e.to ≡ a
read_to g J a p e w may heard = elim (delivered g (Fitted g) (FittedState g) (fits_keep g) J (all_fit g J w) a p may) [
  | inl none ↦ absurd (none-some e (sym none ∙ heard))
  | inr y ↦ sym (ap (λ (x : Envelope). x.to) (same_Some (record { from = y.from; to = a; message = y.message }) e (sym y.is ∙ heard)))
]

gives_by : (g : Group) (r : Record) (J : List Record) (id : Id) (a : Answer) (path : Path) → World g (r ∷ J) → (t : AcceptsAnswer g r J id a path)
    → IsAnswerTo (state_after g (Client t.client) J) t.envelope.from t.envelope.message → Gives g r J id a
gives_by g r J id a path w t to =
    let c = t.client in
    let e = t.envelope in
    let d = delivers g (Client c) r.event e t.read in
    let p = d.parcel in
    let by : MayHappen J (Client c) r.event = subst (λ (x : Actor). MayHappen J x r.event) t.by w.0.event in
    let may : MayHappen J (Client c) (Deliver p) = subst (MayHappen J (Client c)) d.is by in
    let s = has_source p J may.1 in
    let message = message_source g J w.1 (Client c) p e d.heard s.0 s.1 in
    let id_is : id_at c t.body.num ≡ id = sym t.id_is in
    let back : LeadsBack g J (id_at c t.body.num) t.body.answer p.from s.0 =
    answer_source g J s.0 p e c t.body w.1 message
    (record { proxy = to.proxy; sender = to.sender; receiver = read_to g J (Client c) p e w.1 may d.heard; message = t.message }) in
    let mine : LeadsBack g J id t.body.answer p.from s.0 = subst (λ (x : Id). LeadsBack g J x t.body.answer p.from s.0) id_is back in
    let prefix = prefix_at_source g id mine.source in
    let leads : accepted_source g id p J ≡ Some mine.source = ap (option_and_then (source_of_sender g id p.from)) s.1 ∙ mine.is in
    let found : accepted_prefix g id p J ≡ Some prefix = ap (option_map (prefix_at_source g id)) leads in
    record {
      parcel = p;
      event = d.is;
      prefix = prefix;
      found = found;
      is = ap (λ (l : List ClientEvent). prefix_in g l r.event J) t.events_are ∙ ap (λ (e : Event). prefix_in g (Accepted id a path ∷ t.rest) e J) d.is
          ∙ ap entries_or found;
      reply = mine.reply;
      source = mine.source;
      leads = leads;
      at_source = refl;
      view = ap (option_and_then (view_of_sender g id p.from)) s.1 ∙ mine.view;
      backed = mine.backed;
      given = subst (λ (x : Answer). IsGiven g J (view_of mine.reply) id x prefix) (sym t.answer_is) mine.given;
    }

-- an accepted answer was given by a reply over a prefix of the log of the leader of its view
pub gives : (g : Group) (r : Record) (J : List Record) (id : Id) (a : Answer) (path : Path) → World g (r ∷ J) → AcceptsAnswer g r J id a path
    → Gives g r J id a
gives g r J id a path w t =
    let c = t.client in
    let before = state_after g (Client c) J in
    let d = delivers g (Client c) r.event t.envelope t.read in
    let step : state_after g (Client c) (r ∷ J) ≡ (envelope_step g (Client c) before (Some t.envelope)).0 =
    acts_itself g (Client c) r J t.by ∙ ap (λ (e : Event). (event_step g (Client c) before e).0) d.is
    ∙ ap (λ (o : Option Envelope). (envelope_step g (Client c) before o).0) d.heard in
    let more : before.accepted < (envelope_step g (Client c) before (Some t.envelope)).0.accepted =
    subst (λ (s : ClientData). before.accepted < s.accepted) step t.more in
    gives_by g r J id a path w t (client_accepts g c before t.envelope more)

-- ---- accepted prefixes

-- the prefix is given from the log of a view's leader
pub record IsGivenOnce (g : Group) (J : List Record) (P : List Entry) : Type 0 where
  pub id : Id
  pub answer : Answer
  pub view : ℕ
  pub given : IsGiven g J view id answer P

pub same_parcel : (p q : Parcel) → Deliver p ≡ Deliver q → p ≡ q
same_parcel p q e = cc

pub accepted_given : (g : Group) (J : List Record) → World g J → (P : List Entry) → IsAccepted g P J → IsGivenOnce g J P
accepted_given g [] w P h = absurd h
accepted_given g (r ∷ J) w P (inl a) =
    let t = gives g r J a.id a.answer a.path w (event_accepted g r J a.id a.answer a.path a.accepted_there) in
    let parcel : t.parcel ≡ a.brought = same_parcel t.parcel a.brought (sym t.event ∙ a.event) in
    let same : t.prefix ≡ P = same_Some t.prefix P (sym t.found ∙ ap (λ (p : Parcel). accepted_prefix g a.id p J) parcel ∙ a.prefix) in
    record {
      id = a.id;
      answer = a.answer;
      view = view_of t.reply;
      given = given_later g (r ∷ J) J (inr (at_self J)) (view_of t.reply) a.id a.answer P (subst (IsGiven g J (view_of t.reply) a.id a.answer) same t.given);
    }
accepted_given g (r ∷ J) w P (inr b) =
    let h = accepted_given g J w.1 P b in
    record { id = h.id; answer = h.answer; view = h.view; given = given_later g (r ∷ J) J (inr (at_self J)) h.view h.id h.answer P h.given }

-- ---- accepted in a view

-- P was decided in the view: it is what the chosen reply was given from, and this is what the decision rests on
pub record IsDecidedIn (g : Group) (J : List Record) (v : ℕ) (P : List Entry) : Type 0 where
  pub id : Id
  pub answer : Answer
  pub reply : Reply
  pub source : ReplySource
  pub view : view_of reply ≡ v
  pub at_source : P ≡ prefix_at_source g id source
  pub backed : IsBacked g J id reply source
  pub given : IsGiven g J v id answer P

decided_later : (g : Group) (J K : List Record) → At J K → (v : ℕ) (P : List Entry) → IsDecidedIn g K v P → IsDecidedIn g J v P
decided_later g J K at v P h = record {
  id = h.id;
  answer = h.answer;
  reply = h.reply;
  source = h.source;
  view = h.view;
  at_source = h.at_source;
  backed = backed_later g J K at h.id h.reply h.source h.backed;
  given = given_later g J K at v h.id h.answer P h.given;
}

decided_now : (g : Group) (r : Record) (J : List Record) (v : ℕ) (P : List Entry) → World g (r ∷ J) → AcceptsIn g v P r J → IsDecidedIn g J v P
decided_now g r J v P w h =
    let a = h.accepts in
    let t = gives g r J a.id a.answer a.path w (event_accepted g r J a.id a.answer a.path a.accepted_there) in
    let parcel : t.parcel ≡ a.brought = same_parcel t.parcel a.brought (sym t.event ∙ a.event) in
    let same : t.prefix ≡ P = same_Some t.prefix P (sym t.found ∙ ap (λ (p : Parcel). accepted_prefix g a.id p J) parcel ∙ a.prefix) in
    let view : view_of t.reply ≡ v = same_Some (view_of t.reply) v (sym t.view ∙ ap (λ (p : Parcel). accepted_view g a.id p J) parcel ∙ h.view) in
    record {
      id = a.id;
      answer = a.answer;
      reply = t.reply;
      source = t.source;
      view = view;
      at_source = sym same ∙ t.at_source;
      backed = t.backed;
      given = subst (λ (n : ℕ). IsGiven g J n a.id a.answer P) view (subst (IsGiven g J (view_of t.reply) a.id a.answer) same t.given);
    }

pub decided_in : (g : Group) (J : List Record) → World g J → (v : ℕ) (P : List Entry) → IsAcceptedIn g v P J → IsDecidedIn g J v P
decided_in g [] w v P h = absurd h
decided_in g (r ∷ J) w v P (inl a) = decided_later g (r ∷ J) J (inr (at_self J)) v P (decided_now g r J v P w a)
decided_in g (r ∷ J) w v P (inr b) = decided_later g (r ∷ J) J (inr (at_self J)) v P (decided_in g J w.1 v P b)

-- what was accepted was accepted in some view
pub accepted_somewhere : (g : Group) (J : List Record) → World g J → (P : List Entry) → IsAccepted g P J → (v : ℕ) × IsAcceptedIn g v P J
accepted_somewhere g [] w P h = absurd h
accepted_somewhere g (r ∷ J) w P (inl a) =
    let t = gives g r J a.id a.answer a.path w (event_accepted g r J a.id a.answer a.path a.accepted_there) in
    let parcel : t.parcel ≡ a.brought = same_parcel t.parcel a.brought (sym t.event ∙ a.event) in
    (view_of t.reply, inl (record { accepts = a; view = ap (λ (p : Parcel). accepted_view g a.id p J) (sym parcel) ∙ t.view }))
accepted_somewhere g (r ∷ J) w P (inr b) = let h = accepted_somewhere g J w.1 P b in (h.0, inr h.1)
