-- What the others report, gathered one after the other and put in order.
use Rattle.std.proofs.Common.{◌≡◌, ℕ, zero, suc, ◌+◌, ◌<◌, ◌≤◌, false, not, ◌==◌, List, [], ◌∷◌, length}
use Rattle.std.proofs.Common.{map, get_or, refl, ap, ◌∙◌, inl, inr, arith, length-append, IsPermutation}
use Rattle.std.specs.Prelude.{slice_index}
use Rattle.std.specs.List.{filter}
use Rattle.std.specs.List.Sorted.{IsSorted}
use Rattle.std.specs.Ordering.{nat_cmp}
use Rattle.std.proofs.lemmas.Bool.{eqb-true, cases_Bool}
use Rattle.std.proofs.lemmas.Bool.Decides.{nat_tests}
use Rattle.std.proofs.lemmas.List.Elements.{filter-append}
use Rattle.std.proofs.lemmas.List.Sorted.{IsNonDecreasingBy-from_sort}
use Rattle.nz_window.specs.Samples.{numbers_in_order}
use Rattle.nz_window.proofs.Order.{in_order-unique}
use Rattle.nz_machine.specs.rules.Replicas.{numbers_below, others}
use Rattle.nz_machine.specs.rules.LogMods.{commit_point}

abbrev pub gathered : ℕ → List ℕ → ℕ → List ℕ
gathered me ack n = map (slice_index ack) (filter (λ r. not (r == me)) (numbers_below n))

-- ---- how many they are

below_all : (me n : ℕ) → n ≤ me → length (filter (λ r. not (r == me)) (numbers_below n)) ≡ n
below_all me zero low = refl
below_all me (suc n) low =
    let rest = below_all me n (omega arith) in
    let split =
    ap length (filter-append (λ r. not (r == me)) (numbers_below n) (n ∷ []))
    ∙ length-append (filter (λ r. not (r == me)) (numbers_below n)) (filter (λ r. not (r == me)) (n ∷ [])) in
    elim (cases_Bool (n == me)) [
      | inl same ↦ let e : n ≡ me = eqb-true n me same in absurd (omega arith)
      | inr other ↦ let one : length (filter (λ r. not (r == me)) (n ∷ [])) ≡ 1 = rw other refl in omega (arith, rest, split, one)
    ]

lower_than : (me n : ℕ) → me < suc n → (n == me) ≡ false → me < n
lower_than me n member other = grind (arith, nat_tests)

pub others_count : (me n : ℕ) → me < n → length (filter (λ r. not (r == me)) (numbers_below n)) + 1 ≡ n
others_count me zero member = absurd (omega arith)
others_count me (suc n) member =
    let split =
    ap length (filter-append (λ r. not (r == me)) (numbers_below n) (n ∷ []))
    ∙ length-append (filter (λ r. not (r == me)) (numbers_below n)) (filter (λ r. not (r == me)) (n ∷ [])) in
    elim (cases_Bool (n == me)) [
      | inl same ↦
          let e : n ≡ me = eqb-true n me same in
          let all = below_all me n (omega arith) in
          let none : length (filter (λ r. not (r == me)) (n ∷ [])) ≡ 0 = rw same refl in
          omega (arith, all, split, none)
      | inr other ↦
          let rest = others_count me n (lower_than me n member other) in
          let one : length (filter (λ r. not (r == me)) (n ∷ [])) ≡ 1 = rw other refl in
          omega (arith, rest, split, one)
    ]

-- ---- the f-th greatest

pub reported-from_sort : (f me : ℕ) (ack gathered_reports ordered : List ℕ)
    → gathered_reports ≡ map (slice_index ack) (others f me) → IsPermutation gathered_reports ordered → IsSorted nat_cmp ordered
    → get_or ordered f 0 ≡ commit_point f me ack
reported-from_sort f me ack given ordered is same sorted =
    let one : ordered ≡ numbers_in_order given = in_order-unique given ordered same (IsNonDecreasingBy-from_sort (λ x. x) ordered sorted) in
    ap (λ (w : List ℕ). get_or w f 0) one ∙ ap (λ (w : List ℕ). get_or (numbers_in_order w) f 0) is
