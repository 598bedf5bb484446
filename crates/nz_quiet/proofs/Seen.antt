-- What clients see in a tick, with its number.
use Rattle.std.proofs.Common.{◌≡◌, ℕ, ◌<◌, Bool, true, cond, List, [], ◌∷◌, ◌++◌, length, map, refl, sym, ap, subst, ◌∙◌, append_assoc, inl, inr, Option, Some}
use Rattle.std.specs.Prelude.{reverse}
use Rattle.std.specs.List.{AllByRecursion}
use Rattle.std.proofs.lemmas.Bool.{cases_Bool}
use Rattle.std.proofs.lemmas.List.{append-nil, map-append}
use Rattle.nz_base.specs.Actor.{actor_eq}
use Rattle.nz_base.specs.declared.actor.Actor.{Actor}
use Rattle.nz_base.specs.declared.actor.Actor.TheVariants.{Replica, Proxy, Client}
use Rattle.nz_base.proofs.Names.{actor_eq_self, same_actor}
use Rattle.nz_msg.specs.declared.envelope.Envelope.{Envelope}
use Rattle.nz_machine.specs.declared.event.Event.{Event}
use Rattle.nz_machine.specs.declared.event.Event.TheVariants.{Tick}
use Rattle.nz_machine.specs.declared.event.Record.{Record}
use Rattle.nz_machine.specs.declared.journal.Item.{Item}
use Rattle.nz_machine.specs.rules.State.{ClientData, State, Group, Out}
use Rattle.nz_machine.specs.declared.client_event.ClientEvent.{ClientEvent}
use Rattle.nz_machine.specs.runs.Events.{accepted_by, sent_by, read_in, client_events}
use Rattle.nz_machine.specs.runs.Schedule.{item_of}
use Rattle.nz_machine.specs.rules.Step.{event_step, envelope_step, script_of}
use Rattle.nz_machine.specs.runs.World.{state_after, Has, IsMember, World}
use Rattle.nz_machine.proofs.runs.Runs.{acts_itself, has_left, has_right, has_split}
use Rattle.nz_quiet.specs.Quiet.{timed_events}
use Rattle.nz_quiet.specs.Folds.{events_for, events_in, state_from, heard_by, AreReadable}
use Rattle.nz_quiet.specs.ClientTicks.{seen_heard}
use Rattle.nz_quiet.proofs.Folds.{after_now, events_append, items_of}
use Rattle.nz_quiet.proofs.NextTick.{seen_of}
use Rattle.nz_quiet.proofs.Reading.{is_read, deliveries_for}

-- ---- what a client sees on its events

-- what a client sees on an event
abbrev pub event_seen : Group → ℕ → ClientData → Event → List ClientEvent
event_seen g c s e =
    let t = (event_step g (Client c) s e).0 in
    accepted_by c s t (read_in g (Client c) e) ++ sent_by c (script_of g c) s t

-- on some events, the oldest first
unfoldable pub seen_from : Group → ℕ → ClientData → List Event → List ClientEvent
seen_from g c s [] = []
seen_from g c s (e ∷ es) = event_seen g c s e ++ seen_from g c (event_step g (Client c) s e).0 es

seen_append : (g : Group) (c : ℕ) (s : ClientData) (xs ys : List Event)
    → seen_from g c s (xs ++ ys) ≡ seen_from g c s xs ++ seen_from g c (state_from g (Client c) s xs) ys
unfolding seen_from state_from
seen_append g c s [] ys = refl
seen_append g c s (e ∷ xs) ys =
    let t = (event_step g (Client c) s e).0 in
    ap (λ (es : List ClientEvent). event_seen g c s e ++ es) (seen_append g c t xs ys)
    ∙ sym (append_assoc (event_seen g c s e) (seen_from g c t xs) (seen_from g c (state_from g (Client c) t xs) ys))

-- what a client sees in the records of a tick
abbrev pub seen_in : Group → ℕ → List Record → List Record → List ClientEvent
seen_in g c now older = seen_from g c (state_after g (Client c) older) (events_in (Client c) now)

-- in one record more
abbrev seen_one : Group → ℕ → Record → List Record → List ClientEvent
seen_one g c r J = seen_from g c (state_after g (Client c) J) (events_for (Client c) (item_of r ∷ []))

one_more : (g : Group) (c : ℕ) (r : Record) (now older : List Record) → seen_in g c (r ∷ now) older ≡ seen_in g c now older ++ seen_one g c r (now ++ older)
one_more g c r now older =
    let a = Client c in
    let s = state_after g a older in
    let es = events_for a (map item_of (reverse now)) in
    ap (λ (is : List Item). seen_from g c s (events_for a is)) (items_of r now)
    ∙ ap (seen_from g c s) (events_append a (map item_of (reverse now)) (item_of r ∷ []))
    ∙ seen_append g c s es (events_for a (item_of r ∷ []))
    ∙ ap (λ (t : State a). seen_from g c s es ++ seen_from g c t (events_for a (item_of r ∷ []))) (sym (after_now g a now older))

own_seen : (g : Group) (c : ℕ) (r : Record) (J : List Record) → r.actor ≡ Client c → seen_one g c r J ≡ client_events g (Client c) r J
unfolding seen_from
own_seen g c r J is =
    let s = state_after g (Client c) J in
    let own : actor_eq r.actor (Client c) ≡ true = ap (λ (a : Actor). actor_eq a (Client c)) is ∙ actor_eq_self (Client c) in
    ap (λ (b : Bool). seen_from g c s (cond b (r.event ∷ []) [])) own
    ∙ append-nil (event_seen g c s r.event)
    ∙ sym (ap (λ (t : ClientData). accepted_by c s t (read_in g (Client c) r.event) ++ sent_by c (script_of g c) s t) (acts_itself g (Client c) r J is))

-- ---- all clients

-- what clients see in the records of a tick, the oldest first
abbrev pub tick_seen : Group → List Record → List Record → List ClientEvent
tick_seen g [] older = []
tick_seen g (r ∷ now) older = tick_seen g now older ++ client_events g r.actor r (now ++ older)

pub seen_has : (g : Group) (c : ℕ) (now older : List Record) (e : ClientEvent) → Has (seen_in g c now older) e → Has (tick_seen g now older) e
unfolding seen_from
seen_has g c [] older e h = absurd h
seen_has g c (r ∷ now) older e h =
    let J = now ++ older in
    elim (has_split (seen_in g c now older) (seen_one g c r J) e (subst (λ (es : List ClientEvent). Has es e) (one_more g c r now older) h)) [
      | inl before ↦ has_left (tick_seen g now older) (client_events g r.actor r J) e (seen_has g c now older e before)
      | inr here ↦ has_right (tick_seen g now older) (client_events g r.actor r J) e (elim (cases_Bool (actor_eq r.actor (Client c))) [
        | inl own ↦
            let is : r.actor ≡ Client c = same_actor r.actor (Client c) own in
            subst (λ (a : Actor). Has (client_events g a r J) e) (sym is) (subst (λ (es : List ClientEvent). Has es e) (own_seen g c r J is) here)
        | inr other ↦
            absurd (subst (λ (b : Bool). Has (seen_from g c (state_after g (Client c) J) (cond b (r.event ∷ []) [])) e) other here)
      ])
    ]

pub record IsSeenBy (g : Group) (now older : List Record) (e : ClientEvent) : Type 0 where
  pub client : ℕ
  pub member : client < length g.scripts
  pub among : Has (seen_in g client now older) e

pub seen_is : (g : Group) (now older : List Record) (e : ClientEvent) → World g (now ++ older) → Has (tick_seen g now older) e → IsSeenBy g now older e
seen_is g [] older e w h = absurd h
seen_is g (r ∷ now) older e w h = elim (has_split (tick_seen g now older) (client_events g r.actor r (now ++ older)) e h) [
  | inl before ↦
      let t = seen_is g now older e w.1 before in
      record {
        client = t.client;
        member = t.member;
        among = subst (λ (es : List ClientEvent). Has es e) (sym (one_more g t.client r now older))
            (has_left (seen_in g t.client now older) (seen_one g t.client r (now ++ older)) e t.among);
      }
  | inr here ↦ by_actor r.actor refl here
]
  where
    by_actor : (a : Actor) → r.actor ≡ a → Has (client_events g a r (now ++ older)) e → IsSeenBy g (r ∷ now) older e
    by_actor (Replica k) is among = absurd among
    by_actor (Proxy p) is among = absurd among
    by_actor (Client c) is among = record {
      client = c;
      member = subst (IsMember g) is w.0.member;
      among =
          subst (λ (es : List ClientEvent). Has es e) (sym (one_more g c r now older))
          (has_right (seen_in g c now older) (seen_one g c r (now ++ older)) e
          (subst (λ (es : List ClientEvent). Has es e) (sym (own_seen g c r (now ++ older) is)) among));
    }

-- with the number of the tick
pub timed_tick : (g : Group) (k : ℕ) (now older : List Record) → AllByRecursion (λ (r : Record). r.tick ≡ k) now
    → timed_events g (now ++ older) ≡ timed_events g older ++ map (λ (e : ClientEvent). (k, e)) (tick_seen g now older)
timed_tick g k [] older here = sym (append-nil (timed_events g older))
timed_tick g k (r ∷ now) older here =
    let events = client_events g r.actor r (now ++ older) in
    let timed : ClientEvent → ℕ × ClientEvent = λ e. (k, e) in
    ap (λ (es : List (ℕ × ClientEvent)). es ++ map (λ (e : ClientEvent). (r.tick, e)) events) (timed_tick g k now older here.1)
    ∙ ap (λ (n : ℕ). (timed_events g older ++ map timed (tick_seen g now older)) ++ map (λ (e : ClientEvent). (n, e)) events) here.0
    ∙ append_assoc (timed_events g older) (map timed (tick_seen g now older)) (map timed events)
    ∙ ap (λ (es : List (ℕ × ClientEvent)). timed_events g older ++ es) (sym (map-append timed (tick_seen g now older) events))

-- ---- what is seen on a clock and messages

seen_read : (g : Group) (c : ℕ) (s : ClientData) (xs : List (Actor × Out)) → AreReadable g.f (Client c) xs
    → seen_from g c s (deliveries_for (Client c) xs) ≡ seen_heard g c s (heard_by (Client c) xs)
unfolding seen_from seen_heard
seen_read g c s [] may = refl
seen_read g c s (x ∷ xs) may = elim (cases_Bool (actor_eq x.1.0 (Client c))) [
  | inl mine ↦
      let read = is_read g.f (Client c) x (may.0 mine) mine in
      let on = λ (o : Option Envelope).
      let t = (envelope_step g (Client c) s o).0 in
      (accepted_by c s t o ++ sent_by c (script_of g c) s t) ++ seen_from g c t (deliveries_for (Client c) xs) in
      let next = (envelope_step g (Client c) s (Some (record { from = x.0; to = x.1.0; message = x.1.1 }))).0 in
      rw mine (ap on read ∙ ap (λ (es : List ClientEvent).
      (accepted_by c s next (Some (record { from = x.0; to = x.1.0; message = x.1.1 })) ++ sent_by c (script_of g c) s next) ++ es)
      (seen_read g c next xs may.1))
  | inr other ↦ rw other (seen_read g c s xs may.1)
]

pub seen_tick : (g : Group) (c clock : ℕ) (flight : List (Actor × Out)) (now older : List Record) → AreReadable g.f (Client c) flight
    → events_in (Client c) now ≡ Tick clock ∷ deliveries_for (Client c) flight → seen_in g c now older ≡ seen_of g c older clock flight
unfolding seen_from
seen_tick g c clock flight now older may own =
    let s = state_after g (Client c) older in
    let t = (event_step g (Client c) s (Tick clock)).0 in
    ap (seen_from g c s) own ∙ ap (λ (es : List ClientEvent). sent_by c (script_of g c) s t ++ es) (seen_read g c t flight may)
