-- Each restart has a nonce of its own, so an actor never has one twice.
use Rattle.std.proofs.Common.{◌≡◌, ℕ, zero, suc, ◌+◌, ◌<◌, ◌≤◌, List, [], ◌∷◌, ◌++◌, length, map, Option, Some, None, refl, sym, ap, ◌∙◌, subst, arith}
use Rattle.std.specs.Prelude.{take, reverse, slice_get, IsPermutation}
use Rattle.std.specs.List.{AllByRecursion}
use Rattle.std.proofs.lemmas.Grind.{reverse_onto}
use Rattle.std.proofs.lemmas.Option.{none-some, same_Some}
use Rattle.std.proofs.lemmas.Bool.{cond_both}
use Rattle.nz_base.specs.declared.actor.Actor.{Actor}
use Rattle.nz_base.specs.declared.scenario.Fault.{Fault}
use Rattle.nz_base.specs.declared.scenario.Fault.TheVariants as faults
use Rattle.nz_base.specs.declared.scenario.Scenario.{Scenario}
use Rattle.nz_machine.specs.declared.event.Event.{Event}
use Rattle.nz_machine.specs.declared.event.Event.TheVariants.{Deliver, Cut, Tick, Alarm, Crash, Restart}
use Rattle.nz_machine.specs.declared.event.Record.{Record}
use Rattle.nz_machine.specs.declared.journal.Item.{Item}
use Rattle.nz_machine.specs.runs.Schedule.{item, item_of, if_in, calls, actors_of, tick_item, Delivery, delivery_item}
use Rattle.nz_machine.specs.runs.Schedule.{Posted, posted_by_run, arrivals, due, ScheduledTo, IsPlayable}
use Rattle.nz_machine.proofs.lists.EachItem.{all_append, all_of_prefix, all_back, all_imply, all_permuted}
use Rattle.nz_machine.proofs.runs.DueMayHappen.{IsCalled, IsFine, ItemIsFine, restart_tick, all_two, calls_called, due_is_fine}

-- a restart has a greater nonce than this
abbrev pub IsAbove : ℕ → Event → Type 0
IsAbove n (Deliver p) = Unit {0}
IsAbove n (Cut kept p) = Unit {0}
IsAbove n (Tick clock) = Unit {0}
IsAbove n Alarm = Unit {0}
IsAbove n Crash = Unit {0}
IsAbove n (Restart nonce) = n < nonce

-- if both are restarts, the second has the greater nonce
abbrev pub IsBefore : Event → Event → Type 0
IsBefore (Deliver p) e = Unit {0}
IsBefore (Cut kept p) e = Unit {0}
IsBefore (Tick clock) e = Unit {0}
IsBefore Alarm e = Unit {0}
IsBefore Crash e = Unit {0}
IsBefore (Restart nonce) e = IsAbove nonce e

-- nonces rise
abbrev pub AreApart : List Item → Type 0
AreApart [] = Unit {0}
AreApart (i ∷ is) = AllByRecursion (λ (j : Item). IsBefore i.event j.event) is × AreApart is

-- no restart
abbrev IsOther : Event → Type 0
IsOther (Deliver p) = Unit {0}
IsOther (Cut kept p) = Unit {0}
IsOther (Tick clock) = Unit {0}
IsOther Alarm = Unit {0}
IsOther Crash = Unit {0}
IsOther (Restart nonce) = ⊥

called_above : (tick before : ℕ) (lines : List Fault) (e : Event) → IsCalled tick before lines e → IsAbove before e
called_above tick before lines (Deliver p) h = tt
called_above tick before lines (Cut kept p) h = tt
called_above tick before lines (Tick clock) h = tt
called_above tick before lines Alarm h = tt
called_above tick before lines Crash h = tt
called_above tick before lines (Restart nonce) h = h.0

-- whatever comes after an event that is no restart
after_other : (e : Event) (is : List Item) → IsOther e → AllByRecursion (λ (j : Item). IsBefore e j.event) is
after_other e [] h = tt
after_other (Deliver p) (i ∷ is) h = (tt, after_other (Deliver p) is h)
after_other (Cut kept p) (i ∷ is) h = (tt, after_other (Cut kept p) is h)
after_other (Tick clock) (i ∷ is) h = (tt, after_other (Tick clock) is h)
after_other Alarm (i ∷ is) h = (tt, after_other Alarm is h)
after_other Crash (i ∷ is) h = (tt, after_other Crash is h)
after_other (Restart nonce) (i ∷ is) h = absurd h

apart_if : (tick t : ℕ) (i : Item) (is : List Item) → AllByRecursion (λ (j : Item). IsBefore i.event j.event) is → AreApart is → AreApart (if_in tick t i ++ is)
apart_if tick t i is first rest =
    cond_both (Rattle.std.proofs.Common.eqb t tick) (i ∷ []) [] (λ (own : List Item). AreApart (own ++ is)) (λ _. (first, rest)) (λ _. rest)

calls_apart : (tick before : ℕ) (lines : List Fault) → AreApart (calls tick before lines)
calls_apart tick before [] = tt
calls_apart tick before (faults.Drop from to kind count ∷ lines) = calls_apart tick before lines
calls_apart tick before (faults.Hold from to kind count by ∷ lines) = calls_apart tick before lines
calls_apart tick before (faults.Twice from to kind count by ∷ lines) = calls_apart tick before lines
calls_apart tick before (faults.Cut from to kind count keep ∷ lines) = calls_apart tick before lines
calls_apart tick before (faults.Block from to first last ∷ lines) = calls_apart tick before lines
calls_apart tick before (faults.Crash a t ∷ lines) =
    apart_if tick t (item a Crash) (calls tick before lines) (after_other Crash (calls tick before lines) tt) (calls_apart tick before lines)
calls_apart tick before (faults.Restart a t ∷ lines) =
    apart_if tick t (item a (Restart (before + 1))) (calls tick (before + 1) lines)
    (all_imply (λ (j : Item). IsCalled tick (before + 1) lines j.event) (λ (j : Item). IsAbove (before + 1) j.event)
    (λ j h. called_above tick (before + 1) lines j.event h) (calls tick (before + 1) lines) (calls_called tick (before + 1) lines))
    (calls_apart tick (before + 1) lines)
calls_apart tick before (faults.Alarm a t ∷ lines) =
    apart_if tick t (item a Alarm) (calls tick before lines) (after_other Alarm (calls tick before lines) tt) (calls_apart tick before lines)

-- ---- clocks and deliveries are no restarts

others_apart : (is : List Item) → AllByRecursion (λ (i : Item). IsOther i.event) is → AreApart is
others_apart [] h = tt
others_apart (i ∷ is) h = (after_other i.event is h.0, others_apart is h.1)

other_above : (e f : Event) → IsOther f → IsBefore e f
other_above (Deliver p) f h = tt
other_above (Cut kept p) f h = tt
other_above (Tick clock) f h = tt
other_above Alarm f h = tt
other_above Crash f h = tt
other_above (Restart nonce) (Deliver p) h = tt
other_above (Restart nonce) (Cut kept p) h = tt
other_above (Restart nonce) (Tick clock) h = tt
other_above (Restart nonce) Alarm h = tt
other_above (Restart nonce) Crash h = tt
other_above (Restart nonce) (Restart m) h = absurd h

apart_append : (is js : List Item) → AreApart is → AllByRecursion (λ (j : Item). IsOther j.event) js → AreApart (is ++ js)
apart_append [] js h others = others_apart js others
apart_append (i ∷ is) js h others = (
  all_append (λ (j : Item). IsBefore i.event j.event) is js h.0
      (all_imply (λ (j : Item). IsOther j.event) (λ (j : Item). IsBefore i.event j.event) (λ j o. other_above i.event j.event o) js others),
  apart_append is js h.1 others,
)

ticks_other : (s : Scenario) (tick : ℕ) (all : List Actor) → AllByRecursion (λ (i : Item). IsOther i.event) (map (tick_item s tick) all)
ticks_other s tick [] = tt
ticks_other s tick (a ∷ all) = (tt, ticks_other s tick all)

delivery_other : (p : _) (o : Option ℕ) (at : ℕ) → IsOther (delivery_item p (record { tick = at; kept = o })).event
delivery_other p None at = tt
delivery_other p (Some kept) at = tt

deliveries_other : (p : _) (ds : List Delivery) → AllByRecursion (λ (i : Item). IsOther i.event) (map (delivery_item p) ds)
deliveries_other p [] = tt
deliveries_other p (d ∷ ds) = (delivery_other p d.kept d.tick, deliveries_other p ds)

arrivals_other : (s : Scenario) (tick : ℕ) (earlier : List _) (L : List Posted) → AllByRecursion (λ (i : Item). IsOther i.event) (arrivals s tick earlier L)
arrivals_other s tick earlier [] = tt
arrivals_other s tick earlier (x ∷ L) =
    all_append (λ (i : Item). IsOther i.event) _ (arrivals s tick (earlier ++ x.parcel ∷ []) L)
    (deliveries_other x.parcel _) (arrivals_other s tick (earlier ++ x.parcel ∷ []) L)

pub due_apart : (s : Scenario) (tick : ℕ) (J : List Record) → AreApart (due s tick J)
due_apart s tick J =
    apart_append (calls tick 0 s.faults) _ (calls_apart tick 0 s.faults)
    (all_append (λ (i : Item). IsOther i.event) (map (tick_item s tick) (actors_of s))
    (arrivals s tick [] (posted_by_run J)) (ticks_other s tick (actors_of s)) (arrivals_other s tick [] (posted_by_run J)))

-- ---- the same tick

-- no restart with this nonce
abbrev IsNot : ℕ → Event → Type 0
IsNot nonce e = ¬ (e ≡ Restart nonce)

before_not : (e : Event) (nonce : ℕ) → IsBefore e (Restart nonce) → IsNot nonce e
before_not e nonce h same = let lt : nonce < nonce = subst (λ (f : Event). IsBefore f (Restart nonce)) same h in omega (arith, lt)

-- What all items have, the one at a place has.
pub got : {X : Type 0} (P : X → Type 0) (xs : List X) (i : ℕ) (x : X) → AllByRecursion P xs → slice_get xs i ≡ Some x → P x
got P [] i x all e = absurd (none-some x e)
got P (y ∷ xs) zero x all e = subst P (same_Some y x e) all.0
got P (y ∷ xs) (suc i) x all e = got P xs i x all.1 e

earlier_not : (is : List Item) (i : ℕ) (x : Item) (nonce : ℕ) → AreApart is → slice_get is i ≡ Some x
    → x.event ≡ Restart nonce → AllByRecursion (λ (j : Item). IsNot nonce j.event) (take i is)
earlier_not [] i x nonce h e is = absurd (none-some x e)
earlier_not (j ∷ js) zero x nonce h e is = tt
earlier_not (j ∷ js) (suc i) x nonce h e is = (
  before_not j.event nonce (subst (IsBefore j.event) is (got (λ (k : Item). IsBefore j.event k.event) js i x h.0 e)),
  earlier_not js i x nonce h.1 e is,
)

all_items : (P : Item → Type 0) (rs : List Record) → AllByRecursion P (map item_of rs) → AllByRecursion (λ (r : Record). P (item_of r)) rs
all_items P [] h = tt
all_items P (r ∷ rs) h = (h.0, all_items P rs h.1)

all_reversed : {X : Type 0} (P : X → Type 0) (xs : List X) → AllByRecursion P (reverse xs) → AllByRecursion P xs
all_reversed P [] h = tt
all_reversed P (x ∷ xs) h =
    let whole = subst (AllByRecursion P) (reverse_onto xs x []) h in
    ((all_back P (reverse xs) (x ∷ []) whole).0, all_reversed P xs (all_of_prefix P (reverse xs) (x ∷ []) whole))

-- what holds of the first items holds of the records
pub all_here : (P : Item → Type 0) (rs : List Record) (is : List Item) → map item_of (reverse rs) ≡ is
    → AllByRecursion P is → AllByRecursion (λ (r : Record). P (item_of r)) rs
all_here P rs is e h = all_reversed (λ (r : Record). P (item_of r)) rs (all_items P (reverse rs) (subst (AllByRecursion P) (sym e) h))

pub here_not : (s : Scenario) (tick : ℕ) (J here : List Record) (x : Item) (nonce : ℕ)
    → map item_of (reverse here) ≡ take (length here) (due s tick J) → slice_get (due s tick J) (length here) ≡ Some x → x.event ≡ Restart nonce
    → AllByRecursion (λ (r : Record). IsNot nonce r.event) here
here_not s tick J here x nonce so_far at is =
    all_here (λ (j : Item). IsNot nonce j.event) here (take (length here) (due s tick J)) so_far
    (earlier_not (due s tick J) (length here) x nonce (due_apart s tick J) at is)

-- ---- earlier ticks

-- the record is of an earlier tick, and a restart has the nonce of its line
pub record IsPast (s : Scenario) (tick : ℕ) (r : Record) : Type 0 where
  pub past : r.tick ≤ tick
  pub fine : (nonce : ℕ) → r.event ≡ Restart nonce → restart_tick 0 s.faults nonce ≡ Some r.tick

fine_restart : (s : Scenario) (tick : ℕ) (J : List Record) (r : Record) → ItemIsFine s tick J (item_of r) → r.tick ≡ tick → IsPast s tick r
fine_restart s tick J r h e = record {
  past = omega (arith, e);
  fine = λ nonce is. (subst (IsFine s tick J r.actor) is h).1 ∙ ap Some (sym e);
}

-- what is due is fine, so the records are
pub here_is_fine : (s : Scenario) (tick : ℕ) (now older : List Record) → IsPlayable s → IsPermutation (due s (suc tick) older) (map item_of (reverse now))
    → AllByRecursion (λ (r : Record). ItemIsFine s (suc tick) older (item_of r)) now
here_is_fine s tick now older play same =
    let P = ItemIsFine s (suc tick) older in
    all_here P now (map item_of (reverse now)) refl
    (all_permuted P (due s (suc tick) older) (map item_of (reverse now)) same (due_is_fine s (suc tick) older play))

pub all_past : (s : Scenario) (tick : ℕ) (J : List Record) → IsPlayable s → ScheduledTo s tick J → AllByRecursion (IsPast s tick) J
all_past s zero J play none = subst (AllByRecursion (IsPast s zero)) (sym none) tt
all_past s (suc tick) J play (now, (older, (t, before))) =
    let P = IsPast s (suc tick) in
    let fine = here_is_fine s tick now older play t.items in
    subst (AllByRecursion P) (sym t.whole)
    (all_append P now older
    (all_two (λ (r : Record). ItemIsFine s (suc tick) older (item_of r)) (λ (r : Record). r.tick ≡ suc tick) P
    (λ r h e. fine_restart s (suc tick) older r h e) now fine t.here)
    (all_imply (IsPast s tick) P (λ r h. record { past = let le = h.past in omega (arith, le); fine = h.fine }) older (all_past s tick older play before)))

past_not : (s : Scenario) (tick nonce : ℕ) (r : Record) → restart_tick 0 s.faults nonce ≡ Some (suc tick) → IsPast s tick r → IsNot nonce r.event
past_not s tick nonce r own h is =
    let same : r.tick ≡ suc tick = same_Some r.tick (suc tick) (sym (h.fine nonce is) ∙ own) in
    let le = h.past in
    omega (arith, same, le)

pub finished_not : (s : Scenario) (tick nonce : ℕ) (J : List Record) → IsPlayable s → ScheduledTo s tick J
    → restart_tick 0 s.faults nonce ≡ Some (suc tick) → AllByRecursion (λ (r : Record). IsNot nonce r.event) J
finished_not s tick nonce J play order own =
    all_imply (IsPast s tick) (λ (r : Record). IsNot nonce r.event) (λ r h. past_not s tick nonce r own h) J (all_past s tick J play order)
