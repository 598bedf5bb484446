-- Numbers in rising order: there is one list of them.
use Rattle.std.proofs.Common.{◌≡◌, ℕ, zero, suc, ◌+◌, ◌<◌, ◌≤◌, Bool, true, false, cond, leb, List, []}
use Rattle.std.proofs.Common.{◌∷◌, sum_by, All, arith, refl, sym, ◌∙◌, ap, ⊎_elim, IsPermutation}
use Rattle.std.specs.Prelude.{if◌then◌else◌}
use Rattle.std.specs.List.Sorted.{IsNonDecreasing}
use Rattle.std.proofs.lemmas.Bool.{cases_order, leb-true}
use Rattle.std.proofs.lemmas.Bool.Decides.{nat_tests}
use Rattle.std.proofs.lemmas.List.Elements.{All-nil, All-cons, All-head, All-tail, All-weaker}
use Rattle.std.proofs.lemmas.List.Sums.{sum_by-cons}
use Rattle.std.proofs.lemmas.List.Sorted.{sum_by-IsPermutation, IsPermutation-refl, IsPermutation-cons, IsPermutation-trans, IsPermutation-swap}
use Rattle.nz_window.specs.Samples.{with_number, numbers_in_order, OrdersAll}

-- each number is at most all that come after it
abbrev pub Rises : List ℕ → Type 0
Rises [] = Unit {0}
Rises (x ∷ xs) = All (λ z. x ≤ z) xs × Rises xs

pub rises_from_non_decreasing : (xs : List ℕ) → IsNonDecreasing xs → Rises xs
rises_from_non_decreasing [] up = tt
rises_from_non_decreasing (x ∷ xs) up = (
  (λ k d h. up 0 (suc k) d (omega arith) (omega arith)),
  rises_from_non_decreasing xs (λ i j d below within. up (suc i) (suc j) d (omega arith) (omega arith)),
)

pub non_decreasing_from_rises : (xs : List ℕ) → Rises xs → IsNonDecreasing xs
non_decreasing_from_rises [] up i j d below within = absurd (omega arith)
non_decreasing_from_rises (x ∷ xs) up zero zero d below within = omega arith
non_decreasing_from_rises (x ∷ xs) up zero (suc j) d below within = up.0 j d (omega arith)
non_decreasing_from_rises (x ∷ xs) up (suc i) zero d below within = absurd (omega arith)
non_decreasing_from_rises (x ∷ xs) up (suc i) (suc j) d below within = non_decreasing_from_rises xs up.1 i j d (omega arith) (omega arith)

-- 1 for a number that is at most this one
abbrev at_most : ℕ → ℕ → ℕ
at_most x z = cond (leb z x) 1 0

none_at_most : (x : ℕ) (ys : List ℕ) → All (λ z. x < z) ys → sum_by (at_most x) ys ≡ 0
none_at_most x [] above = refl
none_at_most x (y ∷ ys) above =
    let here : x < y = All-head (λ z. x < z) y ys above in
    let rest : sum_by (at_most x) ys ≡ 0 = none_at_most x ys (All-tail (λ z. x < z) y ys above) in
    let whole : sum_by (at_most x) (y ∷ ys) ≡ at_most x y + sum_by (at_most x) ys = sum_by-cons (at_most x) y ys in
    grind (arith, nat_tests)

-- the least number of one list is no less than that of a list with the same numbers
first_at_least : (x y : ℕ) (xs ys : List ℕ) → All (λ z. y ≤ z) ys → sum_by (at_most x) (x ∷ xs) ≡ sum_by (at_most x) (y ∷ ys) → x < y → ⊥
first_at_least x y xs ys above same less =
    let none : sum_by (at_most x) (y ∷ ys) ≡ 0 =
    none_at_most x (y ∷ ys) (All-cons (λ z. x < z) y ys less (All-weaker (λ z. y ≤ z) (λ z. x < z) (λ z h. omega arith) ys above)) in
    let one : sum_by (at_most x) (x ∷ xs) ≡ at_most x x + sum_by (at_most x) xs = sum_by-cons (at_most x) x xs in
    grind (arith, nat_tests)

-- two lists in rising order with the same numbers are one list
pub same_from_rises : (xs ys : List ℕ) → Rises xs → Rises ys → ((f : ℕ → ℕ) → sum_by f xs ≡ sum_by f ys) → xs ≡ ys
same_from_rises [] [] up up' same = refl
same_from_rises [] (y ∷ ys) up up' same = let counts : 0 ≡ 1 + sum_by (λ _. 1) ys = same (λ _. 1) ∙ sum_by-cons (λ _. 1) y ys in absurd (omega arith)
same_from_rises (x ∷ xs) [] up up' same = let counts : 1 + sum_by (λ _. 1) xs ≡ 0 = sym (sum_by-cons (λ _. 1) x xs) ∙ same (λ _. 1) in absurd (omega arith)
same_from_rises (x ∷ xs) (y ∷ ys) up up' same =
    let one : x ≡ y = ⊎_elim (λ (e : x ≡ y). e) (⊎_elim
    (λ (less : x < y). absurd (first_at_least x y xs ys up'.0 (same (at_most x)) less))
    (λ (more : y < x). absurd (first_at_least y x ys xs up.0 (sym (same (at_most y))) more)))
    (cases_order x y) in
    let rest : xs ≡ ys =
    same_from_rises xs ys up.1 up'.1
    (λ f. let whole : f x + sum_by f xs ≡ f y + sum_by f ys = sym (sum_by-cons f x xs) ∙ same f ∙ sum_by-cons f y ys in
    let head : f x ≡ f y = ap f one in omega arith) in
    λ i. one i ∷ rest i

on_choice : (P : List ℕ → Type 0) (b : Bool) (xs ys : List ℕ) → (b ≡ true → P xs) → (b ≡ false → P ys) → P (if b then xs else ys)
on_choice P true xs ys first second = first refl
on_choice P false xs ys first second = second refl

placed-permutes : (x : ℕ) (xs : List ℕ) → IsPermutation (x ∷ xs) (with_number x xs)
placed-permutes x [] = IsPermutation-refl (x ∷ [])
placed-permutes x (y ∷ ys) =
    on_choice (λ w. IsPermutation (x ∷ (y ∷ ys)) w) (leb x y) (x ∷ (y ∷ ys)) (y ∷ with_number x ys)
    (λ _. IsPermutation-refl (x ∷ (y ∷ ys)))
    (λ _. IsPermutation-trans (x ∷ (y ∷ ys)) (y ∷ (x ∷ ys)) (y ∷ with_number x ys)
    (IsPermutation-swap (x ∷ (y ∷ ys)) (y ∷ (x ∷ ys)) 0 1 (omega arith) (omega arith) refl)
    (IsPermutation-cons y (x ∷ ys) (with_number x ys) (placed-permutes x ys)))

placed-above : (x m : ℕ) (xs : List ℕ) → m ≤ x → All (λ z. m ≤ z) xs → All (λ z. m ≤ z) (with_number x xs)
placed-above x m [] least all = All-cons (λ z. m ≤ z) x [] least all
placed-above x m (y ∷ ys) least all =
    on_choice (λ w. All (λ z. m ≤ z) w) (leb x y) (x ∷ (y ∷ ys)) (y ∷ with_number x ys)
    (λ _. All-cons (λ z. m ≤ z) x (y ∷ ys) least all)
    (λ _. All-cons (λ z. m ≤ z) y (with_number x ys) (All-head (λ z. m ≤ z) y ys all) (placed-above x m ys least (All-tail (λ z. m ≤ z) y ys all)))

placed-rises : (x : ℕ) (xs : List ℕ) → Rises xs → Rises (with_number x xs)
placed-rises x [] up = (All-nil (λ z. x ≤ z), tt)
placed-rises x (y ∷ ys) up =
    on_choice Rises (leb x y) (x ∷ (y ∷ ys)) (y ∷ with_number x ys)
    (λ yes. let below : x ≤ y = leb-true x y yes in
    (All-cons (λ z. x ≤ z) y ys below (All-weaker (λ z. y ≤ z) (λ z. x ≤ z) (λ z h. omega arith) ys up.0), up))
    (λ never. let below : y ≤ x = grind (arith, nat_tests) in (placed-above x y ys below up.0, placed-rises x ys up.1))

pub in_order-permutes : (xs : List ℕ) → IsPermutation xs (numbers_in_order xs)
in_order-permutes [] = IsPermutation-refl []
in_order-permutes (x ∷ xs) =
    IsPermutation-trans (x ∷ xs) (x ∷ numbers_in_order xs) (with_number x (numbers_in_order xs))
    (IsPermutation-cons x xs (numbers_in_order xs) (in_order-permutes xs)) (placed-permutes x (numbers_in_order xs))

pub in_order-rises : (xs : List ℕ) → Rises (numbers_in_order xs)
in_order-rises [] = tt
in_order-rises (x ∷ xs) = placed-rises x (numbers_in_order xs) (in_order-rises xs)

pub orders_all : OrdersAll
orders_all xs = (in_order-permutes xs, non_decreasing_from_rises (numbers_in_order xs) (in_order-rises xs))

-- whatever puts the numbers in rising order gives this list
pub in_order-unique : (xs ordered : List ℕ) → IsPermutation xs ordered → IsNonDecreasing ordered → ordered ≡ numbers_in_order xs
in_order-unique xs ordered same up =
    same_from_rises ordered (numbers_in_order xs) (rises_from_non_decreasing ordered up) (in_order-rises xs)
    (λ f. sum_by-IsPermutation f xs ordered same ∙ sym (sum_by-IsPermutation f xs (numbers_in_order xs) (in_order-permutes xs)))
