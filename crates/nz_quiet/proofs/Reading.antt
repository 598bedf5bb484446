-- What arrives for an actor is read, so a tick is a clock and then messages.
use Rattle.std.proofs.Common.{◌≡◌, ℕ, suc, ◌*◌, ◌≤◌, min, Bool, true, cond, not, List, [], ◌∷◌, ◌++◌, map, Some, None, Ok}
use Rattle.std.proofs.Common.{refl, sym, ap, subst, ◌∙◌, inl, inr, arith}
use Rattle.std.specs.Prelude.{ℤ, pos}
use Rattle.std.specs.List.{AllByRecursion, filter}
use Rattle.std.proofs.lemmas.Bool.{cases_Bool, cond_both, and_from}
use Rattle.std.proofs.lemmas.List.{append-nil}
use Rattle.nz_base.specs.Actor.{actor_eq}
use Rattle.nz_base.specs.declared.actor.Actor.{Actor}
use Rattle.nz_base.specs.declared.limits.TheConstants.{UNITS_PER_TICK, MAX_CLOCK, MAX_TICKS}
use Rattle.nz_base.specs.declared.scenario.Skew.{Skew}
use Rattle.nz_base.specs.declared.scenario.Scenario.{Scenario}
use Rattle.nz_base.proofs.Names.{actor_eq_self}
use Rattle.nz_msg.specs.declared.envelope.Envelope.{Envelope}
use Rattle.nz_msg.specs.Envelope.{encode_of, decode_of}
use Rattle.nz_msg.proofs.Envelopes.{decode-encode}
use Rattle.nz_machine.specs.declared.event.Event.{Event}
use Rattle.nz_machine.specs.declared.event.Event.TheVariants.{Deliver, Tick}
use Rattle.nz_machine.specs.declared.event.Parcel.{Parcel}
use Rattle.nz_machine.specs.declared.event.Record.{Record}
use Rattle.nz_machine.specs.rules.State.{State, Group, Out}
use Rattle.nz_machine.specs.rules.Step.{is_for, envelope_if_for, envelope_for, if_from_cluster, accepted_envelope, message_step, envelope_step, tick_step}
use Rattle.nz_machine.specs.rules.Step.{event_step}
use Rattle.nz_machine.specs.runs.Schedule.{group_of, clock_with_skew, skew_of, clock_at, actors_of, tick_item, due, IsTick, InOrderTo, IsPlayable}
use Rattle.nz_machine.specs.runs.Steps.{AreSteps}
use Rattle.nz_machine.specs.runs.World.{state_after, IsMember}
use Rattle.nz_quiet.specs.Quiet.{IsQuiet}
use Rattle.nz_quiet.specs.Folds.{delivery, events_for, events_in, state_from, outs_from, flight_of, posted, outs_of, heard_by}
use Rattle.nz_quiet.specs.Folds.{state_heard, outs_heard, IsReadable, AreReadable, IsHeardTick}
use Rattle.nz_quiet.proofs.QuietDue.{due_first, due_quiet}
use Rattle.nz_quiet.proofs.Folds.{after_now}
use Rattle.nz_quiet.proofs.OwnEvents.{own_events}
use Rattle.nz_quiet.proofs.Flight.{outs_are, parcels_are}

-- ---- one message

pub is_read : (f : ℕ) (a : Actor) (x : Actor × Out) → IsReadable f a x → actor_eq x.1.0 a ≡ true
    → accepted_envelope f a (posted x) ≡ Some (record { from = x.0; to = x.1.0; message = x.1.1 })
unfolding envelope_for
is_read f a x may mine =
    let e : Envelope = record { from = x.0; to = x.1.0; message = x.1.1 } in
    let d : decode_of (encode_of x.0 x.1.0 x.1.1) ≡ Ok e = decode-encode x.0 x.1.0 x.1.1 may.sender may.receiver may.message in
    let for_me : is_for a (posted x) e ≡ true =
    and_from _ _ (actor_eq_self x.0) (and_from _ _ (actor_eq_self x.1.0) (and_from _ _ mine (ap not may.other))) in
    ap (λ y. if_from_cluster f (envelope_if_for a (posted x) y)) d
    ∙ ap (λ (b : Bool). if_from_cluster f (cond b (Some e) None)) for_me
    ∙ ap (λ (b : Bool). cond b (Some e) None) may.counts

-- the step on a delivery is that on its message
step_is : (g : Group) (a : Actor) (s : State a) (x : Actor × Out) → IsReadable g.f a x → actor_eq x.1.0 a ≡ true
    → event_step g a s (Deliver (posted x)) ≡ message_step g a s x.0 x.1.1
step_is g a s x may mine = ap (envelope_step g a s) (is_read g.f a x may mine)

-- ---- all that arrive

-- the deliveries for an actor of what is in flight
abbrev pub deliveries_for : Actor → List (Actor × Out) → List Event
deliveries_for a xs = map Deliver (filter (λ (p : Parcel). actor_eq p.to a) (map posted xs))

state_read : (g : Group) (a : Actor) (s : State a) (xs : List (Actor × Out)) → AreReadable g.f a xs
    → state_from g a s (deliveries_for a xs) ≡ state_heard g a s (heard_by a xs)
unfolding state_from state_heard
state_read g a s [] may = refl
state_read g a s (x ∷ xs) may = elim (cases_Bool (actor_eq x.1.0 a)) [
  | inl mine ↦
      let step = step_is g a s x (may.0 mine) mine in
      rw mine (ap (λ (t : State a × List Out). state_from g a t.0 (deliveries_for a xs)) step
      ∙ state_read g a (message_step g a s x.0 x.1.1).0 xs may.1)
  | inr other ↦ rw other (state_read g a s xs may.1)
]

outs_read : (g : Group) (a : Actor) (s : State a) (xs : List (Actor × Out)) → AreReadable g.f a xs
    → outs_from g a s (deliveries_for a xs) ≡ outs_heard g a s (heard_by a xs)
unfolding outs_from outs_heard
outs_read g a s [] may = refl
outs_read g a s (x ∷ xs) may = elim (cases_Bool (actor_eq x.1.0 a)) [
  | inl mine ↦
      let step = step_is g a s x (may.0 mine) mine in
      let next = message_step g a s x.0 x.1.1 in
      rw mine (ap (λ (t : State a × List Out). t.1 ++ outs_from g a t.0 (deliveries_for a xs)) step
      ∙ ap (λ (os : List Out). next.1 ++ os) (outs_read g a next.0 xs may.1))
  | inr other ↦ rw other (outs_read g a s xs may.1)
]

-- ---- clocks

no_skew : (a : Actor) (skews : List Skew) → AllByRecursion (λ (k : Skew). k.units ≡ pos 0) skews → skew_of a skews ≡ pos 0
no_skew a [] none = refl
no_skew a (k ∷ skews) none =
    cond_both (actor_eq k.actor a) k.units (skew_of a skews) (λ (z : ℤ). z ≡ pos 0) (λ _. none.0) (λ _. no_skew a skews none.1)

pub clock_is : (s : Scenario) (t : ℕ) (a : Actor) → IsQuiet s → t ≤ MAX_TICKS → clock_at s t a ≡ UNITS_PER_TICK * t
clock_is s t a quiet few =
    ap (λ (z : ℤ). min (clock_with_skew (UNITS_PER_TICK * t) z) MAX_CLOCK) (no_skew a s.skews quiet.skews) ∙ omega (arith, few)

-- ---- a tick

-- where an actor has these events in a tick, it hears what was in flight
heard_tick : (g : Group) (a : Actor) (clock : ℕ) (flight : List (Actor × Out)) (next J : List Record) → AreReadable g.f a flight
    → events_in a next ≡ Tick clock ∷ deliveries_for a flight
    → IsHeardTick g a clock flight (state_after g a J) (state_after g a (next ++ J)) (outs_of a (flight_of g next J))
unfolding state_from outs_from
heard_tick g a clock flight next J may own =
    let s = state_after g a J in
    let t = tick_step g a s clock in
    record {
      state = after_now g a next J ∙ ap (state_from g a s) own ∙ state_read g a t.0 flight may;
      sends = outs_are g a next J ∙ ap (outs_from g a s) own ∙ ap (λ (os : List Out). t.1 ++ os) (outs_read g a t.0 flight may);
    }

-- the events of an actor in a tick where these parcels are due
pub tick_events : (s : Scenario) (a : Actor) (t : ℕ) (flight : List (Actor × Out)) (next J K : List Record) → IsQuiet s → IsPlayable s
    → IsMember (group_of s) a → t ≤ MAX_TICKS → IsTick s t next J K
    → due s t J ≡ map (tick_item s t) (actors_of s) ++ map delivery (map posted flight)
    → events_in a next ≡ Tick (UNITS_PER_TICK * t) ∷ deliveries_for a flight
tick_events s a t flight next J K quiet play member few tick now =
    ap (events_for a) tick.items ∙ ap (events_for a) now ∙ own_events s t a (map posted flight) play member
    ∙ ap (λ (c : ℕ). Tick c ∷ deliveries_for a flight) (clock_is s t a quiet few)

-- where these parcels are due in a tick
pub heard_due : (s : Scenario) (a : Actor) (t : ℕ) (flight : List (Actor × Out)) (next J K : List Record) → IsQuiet s → IsPlayable s
    → IsMember (group_of s) a → t ≤ MAX_TICKS → IsTick s t next J K
    → due s t J ≡ map (tick_item s t) (actors_of s) ++ map delivery (map posted flight) → AreReadable (group_of s).f a flight
    → IsHeardTick (group_of s) a (UNITS_PER_TICK * t) flight (state_after (group_of s) a J) (state_after (group_of s) a K)
    (outs_of a (flight_of (group_of s) next J))
heard_due s a t flight next J K quiet play member few tick now may =
    let g = group_of s in
    subst (λ (L : List Record). IsHeardTick g a (UNITS_PER_TICK * t) flight (state_after g a J) (state_after g a L) (outs_of a (flight_of g next J)))
    (sym tick.whole) (heard_tick g a (UNITS_PER_TICK * t) flight next J may (tick_events s a t flight next J K quiet play member few tick now))

pub heard_first : (s : Scenario) (a : Actor) (next K : List Record) → IsQuiet s → IsPlayable s → IsMember (group_of s) a → IsTick s 1 next [] K
    → IsHeardTick (group_of s) a UNITS_PER_TICK [] (state_after (group_of s) a []) (state_after (group_of s) a K) (outs_of a (flight_of (group_of s) next []))
heard_first s a next K quiet play member tick =
    heard_due s a 1 [] next [] K quiet play member (omega arith) tick
    (due_first s quiet ∙ sym (append-nil (map (tick_item s 1) (actors_of s)))) tt

pub heard_next : (s : Scenario) (a : Actor) (t : ℕ) (now older J next K : List Record) → IsQuiet s → IsPlayable s → IsMember (group_of s) a
    → suc (suc t) ≤ MAX_TICKS → IsTick s (suc t) now older J → InOrderTo s t older → IsTick s (suc (suc t)) next J K → AreSteps (group_of s) J
    → AreReadable (group_of s).f a (flight_of (group_of s) now older)
    → IsHeardTick (group_of s) a (UNITS_PER_TICK * suc (suc t)) (flight_of (group_of s) now older) (state_after (group_of s) a J)
    (state_after (group_of s) a K) (outs_of a (flight_of (group_of s) next J))
heard_next s a t now older J next K quiet play member few tick before later steps may =
    let g = group_of s in
    let clocks = map (tick_item s (suc (suc t))) (actors_of s) in
    heard_due s a (suc (suc t)) (flight_of g now older) next J K quiet play member few later
    (due_quiet s t now older J quiet tick before
    ∙ ap (λ (ps : List Parcel). clocks ++ map delivery ps) (parcels_are g now older (subst (AreSteps g) tick.whole steps))) may
