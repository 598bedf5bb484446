-- What a step does to what a proxy knows of a request.
use Rattle.std.proofs.Common.{◌≡◌, ℕ, Bool, true, false, cond, List, [], Option, Some, None, refl, sym, ap, subst, ◌∙◌}
use Rattle.std.specs.Map.{lookup}
use Rattle.std.proofs.lemmas.Bool.{cond_both}
use Rattle.indexmap.specs.IndexMap.{insert_entry}
use Rattle.nz_base.specs.declared.actor.Actor.{Actor}
use Rattle.nz_base.specs.declared.actor.Actor.TheVariants.{Replica, Proxy, Client}
use Rattle.nz_base.specs.declared.key.Id.{Id}
use Rattle.nz_base.specs.Key.{id_eq}
use Rattle.nz_base.proofs.Names.{id_eq_self, same_id}
use Rattle.nz_store.specs.declared.command.Answer.{Answer}
use Rattle.nz_window.specs.Samples.{with_sample}
use Rattle.nz_msg.specs.declared.message.RequestBody.{RequestBody}
use Rattle.nz_msg.specs.declared.message.Message.{Message}
use Rattle.nz_msg.specs.declared.message.Message.TheVariants as messages
use Rattle.nz_msg.specs.declared.envelope.Envelope.{Envelope}
use Rattle.nz_machine.specs.declared.event.Event.{Event}
use Rattle.nz_machine.specs.declared.event.Event.TheVariants.{Deliver, Cut, Tick, Alarm, Crash, Restart}
use Rattle.nz_machine.specs.declared.reply.Reply.{Reply}
use Rattle.nz_machine.specs.rules.State.{ProxyData, Standing, Open, Decided, Group, Out}
use Rattle.nz_machine.specs.rules.Quorums.{Chosen, decision, answer_in, with_note}
use Rattle.nz_machine.specs.rules.Proxies.{with_standing, standing_of, after_stamp, stamp_rule, after_chosen_answer, after_choice}
use Rattle.nz_machine.specs.rules.Proxies.{after_replica_reply, reply_rule, of_fast, of_slow, clock_rule, first_proxy}
use Rattle.nz_machine.specs.rules.Step.{proxy_message, accepted_envelope, envelope_step, event_step}
use Rattle.nz_machine.specs.runs.Events.{read_in}
use Rattle.nz_machine.specs.runs.History.{reply_in, reply_read}
use Rattle.nz_machine.proofs.lists.Lookups.{lookup_inserted, lookup_other}

-- ---- steps of a standing

-- with the reply that an event gives, what is known goes from one value to the next
pub data StandingStep (f : ℕ) (heard : Option Reply) (before after : Option Standing) : Type 0 where
  Stays : after ≡ before → StandingStep f heard before after
  Forgets : after ≡ None → StandingStep f heard before after
  Opens : before ≡ None → after ≡ Some (Open []) → StandingStep f heard before after
  Notes : (replies : List Reply) (r : Reply) → before ≡ Some (Open replies) → heard ≡ Some r → after ≡ Some (Open (with_note replies r))
      → StandingStep f heard before after
  Decides : (replies : List Reply) (r : Reply) (chosen : Chosen) (a : Answer) → before ≡ Some (Open replies) → heard ≡ Some r
      → decision f (with_note replies r) ≡ Some chosen → answer_in chosen.reply ≡ Some a → after ≡ Some (Decided a chosen.path)
      → StandingStep f heard before after

steps_by : (f : ℕ) (s : ProxyData) (x id : Id) (v : Standing) (heard : Option Reply) (b : Bool) → id_eq x id ≡ b
    → (x ≡ id → StandingStep f heard (standing_of s x) (Some v)) → StandingStep f heard (standing_of s x) (standing_of (with_standing s id v) x)
steps_by f s x id v heard true e h =
    let same = same_id x id e in
    let found : standing_of (with_standing s id v) x ≡ Some v = ap (λ (y : Id). lookup (id_eq y) (insert_entry id_eq s.standings id v)) same
    ∙ lookup_inserted s.standings id v in
    subst (StandingStep f heard (standing_of s x)) (sym found) (h same)
steps_by f s x id v heard false e h = Stays (lookup_other s.standings x id v e)

standing_steps : (f : ℕ) (s : ProxyData) (x id : Id) (v : Standing) (heard : Option Reply) → (x ≡ id → StandingStep f heard (standing_of s x) (Some v))
    → StandingStep f heard (standing_of s x) (standing_of (with_standing s id v) x)
standing_steps f s x id v heard h = steps_by f s x id v heard (id_eq x id) refl h

stamped_steps : (f : ℕ) (s : ProxyData) (x id : Id) (command : List ℕ) (heard : Option Reply) (o : Option Standing) → standing_of s id ≡ o
    → StandingStep f heard (standing_of s x) (standing_of (after_stamp f s id command o).0 x)
stamped_steps f s x id command heard None e = standing_steps f s x id (Open []) heard (λ same. Opens (ap (standing_of s) same ∙ e) refl)
stamped_steps f s x id command heard (Some (Open replies)) e = Stays refl
stamped_steps f s x id command heard (Some (Decided a p)) e = Stays refl

answered_steps : (f : ℕ) (s : ProxyData) (x id : Id) (replies : List Reply) (r : Reply) (chosen : Chosen) (heard : Option Reply) (o : Option Answer)
    → standing_of s id ≡ Some (Open replies) → (x ≡ id → heard ≡ Some r) → decision f (with_note replies r) ≡ Some chosen → answer_in chosen.reply ≡ o
    → StandingStep f heard (standing_of s x) (standing_of (after_chosen_answer s id (with_note replies r) chosen.path o).0 x)
answered_steps f s x id replies r chosen heard None e h d is = standing_steps f s x id (Open (with_note replies r)) heard
    (λ same. Notes replies r (ap (standing_of s) same ∙ e) (h same) refl)
answered_steps f s x id replies r chosen heard (Some a) e h d is = standing_steps f s x id (Decided a chosen.path) heard
    (λ same. Decides replies r chosen a (ap (standing_of s) same ∙ e) (h same) d is refl)

decided_steps : (f : ℕ) (s : ProxyData) (x id : Id) (replies : List Reply) (r : Reply) (heard : Option Reply) (o : Option Chosen)
    → standing_of s id ≡ Some (Open replies) → (x ≡ id → heard ≡ Some r) → decision f (with_note replies r) ≡ o
    → StandingStep f heard (standing_of s x) (standing_of (after_choice s id (with_note replies r) o).0 x)
decided_steps f s x id replies r heard None e h d = standing_steps f s x id (Open (with_note replies r)) heard
    (λ same. Notes replies r (ap (standing_of s) same ∙ e) (h same) refl)
decided_steps f s x id replies r heard (Some chosen) e h d = answered_steps f s x id replies r chosen heard (answer_in chosen.reply) e h d refl

noted_steps : (f : ℕ) (s : ProxyData) (x id : Id) (r : Reply) (heard : Option Reply) (o : Option Standing) → standing_of s id ≡ o
    → (x ≡ id → heard ≡ Some r) → StandingStep f heard (standing_of s x) (standing_of (after_replica_reply f s id r o).0 x)
noted_steps f s x id r heard None e h = Stays refl
noted_steps f s x id r heard (Some (Open replies)) e h = decided_steps f s x id replies r heard (decision f (with_note replies r)) e h refl
noted_steps f s x id r heard (Some (Decided a p)) e h = Stays refl

reply_steps : (f : ℕ) (s : ProxyData) (x : Id) (replica : ℕ) (id : Id) (delay : ℕ) (r : Reply) (heard : Option Reply) → (x ≡ id → heard ≡ Some r)
    → StandingStep f heard (standing_of s x) (standing_of (reply_rule f s replica id delay r).0 x)
unfolding reply_rule
reply_steps f s x replica id delay r heard h = noted_steps f (record s { samples = with_sample s.samples replica delay }) x id r heard (standing_of s id) refl h

stamp_steps : (f : ℕ) (s : ProxyData) (x : Id) (c : ℕ) (b : RequestBody) (heard : Option Reply)
    → StandingStep f heard (standing_of s x) (standing_of (stamp_rule f s c b).0 x)
unfolding stamp_rule
stamp_steps f s x c b heard = let id : Id = record { client = c; num = b.num } in stamped_steps f s x id b.command heard (standing_of s id) refl

message_steps : (f : ℕ) (s : ProxyData) (x : Id) (from : Actor) (m : Message)
    → StandingStep f (reply_in x from m) (standing_of s x) (standing_of (proxy_message f s from m).0 x)
message_steps f s x (Client c) (messages.Request b) = stamp_steps f s x c b None
message_steps f s x (Replica r) (messages.FastReply b) =
    reply_steps f s x r b.id b.delay (of_fast r b) (reply_in x (Replica r) (messages.FastReply b))
    (λ same. ap (λ t. cond t (Some (of_fast r b)) None) (ap (id_eq b.id) same ∙ id_eq_self b.id))
message_steps f s x (Replica r) (messages.SlowReply b) =
    reply_steps f s x r b.id b.delay (of_slow r b) (reply_in x (Replica r) (messages.SlowReply b))
    (λ same. ap (λ t. cond t (Some (of_slow r b)) None) (ap (id_eq b.id) same ∙ id_eq_self b.id))
message_steps f s x _ _ = Stays refl

-- a proxy that is down hears nothing
up_steps : (f : ℕ) (heard : Option Reply) (s : ProxyData) (x : Id) (t : ProxyData × List Out) → StandingStep f heard (standing_of s x) (standing_of t.0 x)
    → StandingStep f heard (standing_of s x) (standing_of (cond s.is_down (s, []) t).0 x)
up_steps f heard s x t h = cond_both s.is_down (s, []) t (λ (u : ProxyData × List Out). StandingStep f heard (standing_of s x) (standing_of u.0 x))
    (λ _. Stays refl)
    (λ _. h)

envelope_steps : (g : Group) (q : ℕ) (s : ProxyData) (x : Id) (o : Option Envelope)
    → StandingStep g.f (reply_read x o) (standing_of s x) (standing_of (envelope_step g (Proxy q) s o).0 x)
envelope_steps g q s x None = Stays refl
envelope_steps g q s x (Some e) = up_steps g.f (reply_in x e.from e.message) s x (proxy_message g.f s e.from e.message) (message_steps g.f s x e.from e.message)

pub event_steps : (g : Group) (q : ℕ) (s : ProxyData) (x : Id) (e : Event)
    → StandingStep g.f (reply_read x (read_in g (Proxy q) e)) (standing_of s x) (standing_of (event_step g (Proxy q) s e).0 x)
unfolding clock_rule
event_steps g q s x (Deliver p) = envelope_steps g q s x (accepted_envelope g.f (Proxy q) p)
event_steps g q s x (Cut kept p) = Stays refl
event_steps g q s x (Tick clock) = up_steps g.f None s x (clock_rule s clock, []) (Stays refl)
event_steps g q s x Alarm = Stays refl
event_steps g q s x Crash = Forgets refl
event_steps g q s x (Restart nonce) = cond_both s.is_down (first_proxy g.f) s (λ (t : ProxyData). StandingStep g.f None (standing_of s x) (standing_of t x))
    (λ _. Forgets refl) (λ _. Stays refl)
