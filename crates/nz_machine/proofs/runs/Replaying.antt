-- Records that are scheduled, and are steps of their actors, are a run.
use Rattle.std.proofs.Common.{◌≡◌, ℕ, zero, suc, ◌+◌, ◌≤◌, eqb, cond, List}
use Rattle.std.proofs.Common.{[], ◌∷◌, ◌++◌, map, refl, sym, ap, ◌∙◌, subst, arith}
use Rattle.std.specs.Prelude.{reverse, IsPermutation}
use Rattle.std.specs.List.{AllByRecursion, sum_by}
use Rattle.std.proofs.lemmas.Bool.{eqb-true, cond_both}
use Rattle.std.proofs.lemmas.Bool.Decides.{nat_tests}
use Rattle.std.proofs.lemmas.List.Sums.{sum_by-append}
use Rattle.std.proofs.lemmas.List.Sorted.{IsPermutation-map, IsPermutation-reverse, sum_by-IsPermutation}
use Rattle.nz_base.specs.declared.scenario.Scenario.{Scenario}
use Rattle.nz_machine.specs.declared.event.Event.{Event}
use Rattle.nz_machine.specs.declared.event.Event.TheVariants.{Deliver, Cut, Tick, Alarm, Crash, Restart}
use Rattle.nz_machine.specs.declared.event.Record.{Record}
use Rattle.nz_machine.specs.declared.journal.Item.{Item}
use Rattle.nz_machine.specs.rules.State.{Group}
use Rattle.nz_machine.specs.runs.World.{World}
use Rattle.nz_machine.specs.runs.Schedule.{group_of, item_of, due, ScheduledTo, IsPlayable}
use Rattle.nz_machine.specs.runs.Steps.{AreSteps}
use Rattle.nz_machine.proofs.lists.EachItem.{all_append}
use Rattle.nz_machine.proofs.runs.DueMayHappen.{IsFine, ItemIsFine}
use Rattle.nz_machine.proofs.runs.FreshNonces.{IsAbove, IsBefore, AreApart, due_apart, finished_not, here_is_fine}
use Rattle.nz_machine.proofs.runs.MayTurn.{IsNot, may_turn}

-- ---- each nonce once

-- 1 for a restart with the nonce
abbrev weight : ℕ → Event → ℕ
weight n (Deliver p) = 0
weight n (Cut kept p) = 0
weight n (Tick clock) = 0
weight n Alarm = 0
weight n Crash = 0
weight n (Restart m) = cond (eqb m n) 1 0

abbrev item_weight : ℕ → Item → ℕ
item_weight n i = weight n i.event

own_weight : (n : ℕ) → weight n (Restart n) ≡ 1
own_weight n = cond_both (eqb n n) 1 0 (λ (k : ℕ). k ≡ 1) (λ _. refl) (λ e. absurd (grind (arith, nat_tests)))

above_weight : (n : ℕ) (e : Event) → IsAbove n e → weight n e ≡ 0
above_weight n (Deliver p) h = refl
above_weight n (Cut kept p) h = refl
above_weight n (Tick clock) h = refl
above_weight n Alarm h = refl
above_weight n Crash h = refl
above_weight n (Restart m) h = cond_both (eqb m n) 1 0 (λ (k : ℕ). k ≡ 0) (λ e. absurd (let same = eqb-true m n e in omega (arith, same, h))) (λ _. refl)

sum_first : (n : ℕ) (i : Item) (is : List Item) → sum_by (item_weight n) (i ∷ is) ≡ item_weight n i + sum_by (item_weight n) is
sum_first n i is = let a = sum_by-append (item_weight n) (i ∷ []) is in omega (arith, a)

all_above : (n : ℕ) (is : List Item) → AllByRecursion (λ (j : Item). IsAbove n j.event) is → sum_by (item_weight n) is ≡ 0
all_above n [] h = refl
all_above n (i ∷ is) h =
    let a = sum_first n i is in
    let w = above_weight n i.event h.0 in
    let ih = all_above n is h.1 in
    omega (arith, a, w, ih)

most_once : (n : ℕ) (e : Event) (is : List Item) → AllByRecursion (λ (j : Item). IsBefore e j.event) is
    → sum_by (item_weight n) is ≤ 1 → weight n e + sum_by (item_weight n) is ≤ 1
most_once n (Deliver p) is h rest = omega (arith, rest)
most_once n (Cut kept p) is h rest = omega (arith, rest)
most_once n (Tick clock) is h rest = omega (arith, rest)
most_once n Alarm is h rest = omega (arith, rest)
most_once n Crash is h rest = omega (arith, rest)
most_once n (Restart m) is h rest =
    cond_both (eqb m n) 1 0 (λ (k : ℕ). k + sum_by (item_weight n) is ≤ 1)
    (λ e. let none = all_above n is (subst (λ (k : ℕ). AllByRecursion (λ (j : Item). IsAbove k j.event) is) (eqb-true m n e) h) in omega (arith, none))
    (λ _. omega (arith, rest))

apart_once : (n : ℕ) (is : List Item) → AreApart is → sum_by (item_weight n) is ≤ 1
apart_once n [] h = omega arith
apart_once n (i ∷ is) h =
    let a = sum_first n i is in
    let most = most_once n i.event is h.0 (apart_once n is h.1) in
    omega (arith, a, most)

not_weighed : (n : ℕ) (e : Event) → weight n e ≡ 0 → ¬ (e ≡ Restart n)
not_weighed n e none is = let w = sym (ap (weight n) is) ∙ none in let own = own_weight n in omega (arith, w, own)

none_here : (n : ℕ) (rs : List Record) → sum_by (item_weight n) (map item_of rs) ≡ 0 → AllByRecursion (IsNot n) rs
none_here n [] h = tt
none_here n (r ∷ rs) h =
    let a = sum_first n (item_of r) (map item_of rs) in
    (not_weighed n r.event (omega (arith, a, h)), none_here n rs (omega (arith, a, h)))

-- no earlier record has the nonce of a restart
abbrev AreFresh : List Record → Type 0
AreFresh [] = Unit {0}
AreFresh (r ∷ rs) = ((n : ℕ) → r.event ≡ Restart n → AllByRecursion (IsNot n) rs) × AreFresh rs

are_fresh : (rs : List Record) → ((n : ℕ) → sum_by (item_weight n) (map item_of rs) ≤ 1) → AreFresh rs
are_fresh [] h = tt
are_fresh (r ∷ rs) h = (
  (λ n is.
      let a = sum_first n (item_of r) (map item_of rs) in
      let own : weight n r.event ≡ 1 = ap (weight n) is ∙ own_weight n in
      let most = h n in
      none_here n rs (omega (arith, a, own, most))),
  are_fresh rs (λ n. let a = sum_first n (item_of r) (map item_of rs) in let most = h n in omega (arith, a, most)),
)

tick_is_fresh : (s : Scenario) (tick : ℕ) (now older : List Record) → IsPermutation (due s tick older) (map item_of (reverse now)) → AreFresh now
tick_is_fresh s tick now older same =
    are_fresh now (λ n.
    let once = apart_once n (due s tick older) (due_apart s tick older) in
    let moved = sum_by-IsPermutation (item_weight n) (due s tick older) (map item_of (reverse now)) same in
    let turned =
    sum_by-IsPermutation (item_weight n) (map item_of now) (map item_of (reverse now))
    (IsPermutation-map item_of now (reverse now) (IsPermutation-reverse now)) in
    omega (arith, once, moved, turned))

all_back : (g : Group) (now older : List Record) → AreSteps g (now ++ older) → AreSteps g older
all_back g [] older h = h
all_back g (r ∷ now) older h = all_back g now older h.1

-- ---- the run

world_tick : (s : Scenario) (tick : ℕ) (older now : List Record) → IsPlayable s → World (group_of s) older
    → AllByRecursion (λ (r : Record). ItemIsFine s (suc tick) older (item_of r)) now → AreFresh now
    → ((n : ℕ) (r : Record) → ItemIsFine s (suc tick) older (item_of r) → r.event ≡ Restart n → AllByRecursion (IsNot n) older)
    → AreSteps (group_of s) (now ++ older) → World (group_of s) (now ++ older)
world_tick s tick older [] play w fine fresh past steps = w
world_tick s tick older (r ∷ now) play w fine fresh past steps =
    let g = group_of s in
    let ih = world_tick s tick older now play w fine.1 fresh.1 past steps.1 in
    let may = may_turn s (suc tick) older now r.actor r.event play ih fine.0 (λ n is. all_append (IsNot n) now older (fresh.0 n is) (past n r fine.0 is)) in
    (record { member = may.member; event = may.event; sends = steps.0 }, ih)

pub world_now : (s : Scenario) (tick : ℕ) (J : List Record) → IsPlayable s → ScheduledTo s tick J → AreSteps (group_of s) J → World (group_of s) J
world_now s zero J play none steps = subst (World (group_of s)) (sym none) play.group
world_now s (suc tick) J play (now, (older, (t, before))) steps =
    let g = group_of s in
    let whole = subst (AreSteps g) t.whole steps in
    let w = world_now s tick older play before (all_back g now older whole) in
    subst (World g) (sym t.whole)
    (world_tick s tick older now play w (here_is_fine s tick now older play t.items) (tick_is_fresh s (suc tick) now older t.items)
    (λ n r fine is. finished_not s tick n older play before (subst (IsFine s (suc tick) older r.actor) is fine).1) whole)
