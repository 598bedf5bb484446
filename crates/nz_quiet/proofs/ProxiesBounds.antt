-- A proxy whose delays were all one tick has one of two bounds, and one delay more of one tick changes neither.
use Rattle.std.proofs.Common.{◌≡◌, ℕ, zero, suc, ◌-◌, ◌/◌, ◌<◌, ◌≤◌, Bool, false, cond, eqb, leb, max, min, fold, List, [], ◌∷◌, ◌++◌, length, map}
use Rattle.std.proofs.Common.{refl, ap, ◌∙◌, inl, inr, arith}
use Rattle.std.specs.Prelude.{slice_index, slice_index_or, slice_set}
use Rattle.std.specs.List.{AllByRecursion, list_any}
use Rattle.std.proofs.lemmas.Bool.{cond_both, cases_Bool, or_parts}
use Rattle.std.proofs.lemmas.Bool.Decides.{nat_tests}
use Rattle.std.proofs.lemmas.List.{length-set}
use Rattle.nz_base.specs.declared.limits.TheConstants.{UNITS_PER_TICK}
use Rattle.nz_window.specs.Samples.{last_32, with_sample, with_number, numbers_in_order, median, bound_of}
use Rattle.nz_machine.proofs.lists.EachItem.{all_append}
use Rattle.nz_machine.proofs.lists.ListParts.{all_drop, all_index}
use Rattle.nz_quiet.specs.ProxyTicks.{AreTicks, IsBound}

-- ---- the bound

number_is : (x : ℕ) (ns : List ℕ) → x ≡ UNITS_PER_TICK → AreTicks ns → AreTicks (with_number x ns) × (length (with_number x ns) ≡ suc (length ns))
number_is x [] is all = ((is, tt), refl)
number_is x (n ∷ ns) is all =
    let rest = number_is x ns is all.1 in
    cond_both (leb x n) (x ∷ n ∷ ns) (n ∷ with_number x ns) (λ (l : List ℕ). AreTicks l × (length l ≡ suc (suc (length ns))))
    (λ _. ((is, all), refl)) (λ _. ((all.0, rest.0), ap suc rest.1))

in_order_is : (ns : List ℕ) → AreTicks ns → AreTicks (numbers_in_order ns) × (length (numbers_in_order ns) ≡ length ns)
in_order_is [] all = (tt, refl)
in_order_is (n ∷ ns) all =
    let rest = in_order_is ns all.1 in
    let t = number_is n (numbers_in_order ns) all.0 rest.0 in
    (t.0, t.1 ∙ ap suc rest.1)

at_each : (ns : List ℕ) (k : ℕ) → k < length ns → AreTicks ns → slice_index ns k ≡ UNITS_PER_TICK
at_each [] k lt all = absurd (omega (arith, lt))
at_each (n ∷ ns) zero lt all = all.0
at_each (n ∷ ns) (suc k) lt all = at_each ns k (omega (arith, lt)) all.1

median_is : (ns : List ℕ) → AreTicks ns → eqb (length ns) 0 ≡ false → median ns ≡ UNITS_PER_TICK
median_is ns all some =
    let t = in_order_is ns all in
    let long = t.1 in
    let few : length ns / 2 < length ns = grind (arith, nat_tests, some) in
    at_each (numbers_in_order ns) (length ns / 2) (omega (arith, few, long)) t.0

greatest_is : (window : List (List ℕ)) → AllByRecursion AreTicks window → list_any (λ (ns : List ℕ). eqb (length ns) 0) window ≡ false
    → fold max UNITS_PER_TICK (map median window) ≡ UNITS_PER_TICK
greatest_is [] all none = refl
greatest_is (ns ∷ window) all none =
    let parts = or_parts (eqb (length ns) 0) (list_any (λ (ms : List ℕ). eqb (length ms) 0) window) none in
    ap (λ (k : ℕ). fold max (max UNITS_PER_TICK k) (map median window)) (median_is ns all.0 parts.0) ∙ greatest_is window all.1 parts.1

pub two_bounds : (window : List (List ℕ)) → AllByRecursion AreTicks window → 1 ≤ length window → IsBound (bound_of window)
two_bounds [] all some = absurd (omega (arith, some))
two_bounds (ns ∷ window) all some = elim (cases_Bool (list_any (λ (ms : List ℕ). eqb (length ms) 0) (ns ∷ window))) [
  | inl t ↦ inr (ap (λ (b : Bool). cond b 10000 (fold max 0 (map median (ns ∷ window)))) t)
  | inr f ↦
      let parts = or_parts (eqb (length ns) 0) (list_any (λ (ms : List ℕ). eqb (length ms) 0) window) f in
      let m = median_is ns all.0 parts.0 in
      inl (ap (λ (b : Bool). cond b 10000 (fold max 0 (map median (ns ∷ window)))) f
      ∙ ap (λ (k : ℕ). fold max (max 0 k) (map median window)) m ∙ greatest_is window all.1 parts.1)
]

-- ---- one delay more

set_each : {X : Type 0} (P : X → Type 0) (xs : List X) (i : ℕ) (x : X) → AllByRecursion P xs → P x → AllByRecursion P (slice_set xs i x)
set_each P [] i x all own = tt
set_each P (y ∷ xs) zero x all own = (own, all.1)
set_each P (y ∷ xs) (suc i) x all own = (all.0, set_each P xs i x all.1 own)

-- the same replicas, and all delays one tick
pub sampled : (window : List (List ℕ)) (r delay : ℕ) → delay ≡ UNITS_PER_TICK → AllByRecursion AreTicks window
    → AllByRecursion AreTicks (with_sample window r delay) × (length (with_sample window r delay) ≡ length window)
sampled window r delay is all =
    let IsTick = λ (n : ℕ). n ≡ UNITS_PER_TICK in
    let before = slice_index_or window r [] in
    let longer : List ℕ = before ++ min delay 10000 ∷ [] in
    let each : AreTicks longer =
    all_append IsTick before (min delay 10000 ∷ []) (all_index AreTicks window r [] all tt) (omega (arith, is), tt) in (
      set_each AreTicks window r (last_32 longer) all (all_drop IsTick (length longer - 32) longer each),
      length-set window r (last_32 longer),
    )
