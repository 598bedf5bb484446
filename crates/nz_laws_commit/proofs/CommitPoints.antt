-- How many replicas a commit point counts: the leader, and those that reported as many entries, are a slow quorum.
use Rattle.std.proofs.Common.{◌≡◌, ℕ, zero, suc, ◌+◌, ◌≤◌, ◌<◌, Bool, true, false, eqb, not, nat_le, ◌&&◌, ◌||◌, cond, List, [], ◌∷◌, ◌++◌, length, map}
use Rattle.std.proofs.Common.{refl, sym, ap, ◌∙◌, length-append, inl, inr, arith, eqb-true, eq-eqb}
use Rattle.std.specs.Prelude.{filter, slice_index}
use Rattle.std.specs.List.{AllByRecursion}
use Rattle.std.proofs.lemmas.Bool.{cases_Bool, leb-true, leb-false, le-leb}
use Rattle.std.proofs.lemmas.List.{map-append}
use Rattle.nz_base.specs.Cluster.{replica_count}
use Rattle.nz_base.proofs.Booleans.{true_and_false}
use Rattle.nz_math.specs.Count.{one_if, count_below, all_but}
use Rattle.nz_math.specs.Quorum.{slow_quorum}
use Rattle.nz_math.proofs.Counting.{count_same, count_add, count_all_but}
use Rattle.nz_window.specs.Samples.{with_number, numbers_in_order}
use Rattle.nz_machine.specs.rules.Replicas.{numbers_below, others}
use Rattle.nz_machine.specs.rules.LogMods.{commit_point}

-- how many of the numbers are at least c
abbrev at_least_in : ℕ → List ℕ → ℕ
at_least_in c [] = 0
at_least_in c (x ∷ xs) = one_if (nat_le c x) + at_least_in c xs

abbrev Rises : List ℕ → Type 0
Rises [] = Unit {0}
Rises (x ∷ xs) = AllByRecursion (λ y. x ≤ y) xs × Rises xs

-- ---- numbers in order

placed_count : (c x : ℕ) (ys : List ℕ) → at_least_in c (with_number x ys) ≡ one_if (nat_le c x) + at_least_in c ys
placed_count c x [] = refl
placed_count c x (y ∷ ys) = elim (cases_Bool (nat_le x y)) [
  | inl first ↦ rw first refl
  | inr later ↦ rw later (let rest = placed_count c x ys in omega (arith, rest))
]

order_count : (c : ℕ) (xs : List ℕ) → at_least_in c (numbers_in_order xs) ≡ at_least_in c xs
order_count c [] = refl
order_count c (x ∷ xs) = let put = placed_count c x (numbers_in_order xs) in let rest = order_count c xs in omega (arith, put, rest)

placed_long : (x : ℕ) (ys : List ℕ) → length (with_number x ys) ≡ suc (length ys)
placed_long x [] = refl
placed_long x (y ∷ ys) = elim (cases_Bool (nat_le x y)) [
  | inl first ↦ rw first refl
  | inr later ↦ rw later (ap suc (placed_long x ys))
]

order_long : (xs : List ℕ) → length (numbers_in_order xs) ≡ length xs
order_long [] = refl
order_long (x ∷ xs) = placed_long x (numbers_in_order xs) ∙ ap suc (order_long xs)

all_above : (x y : ℕ) (ys : List ℕ) → x ≤ y → AllByRecursion (λ z. y ≤ z) ys → AllByRecursion (λ z. x ≤ z) ys
all_above x y [] low all = tt
all_above x y (z ∷ ys) low all = let here = all.0 in (omega (arith, low, here), all_above x y ys low all.1)

placed_above : (z x : ℕ) (ys : List ℕ) → z ≤ x → AllByRecursion (λ y. z ≤ y) ys → AllByRecursion (λ y. z ≤ y) (with_number x ys)
placed_above z x [] low all = (low, tt)
placed_above z x (y ∷ ys) low all = elim (cases_Bool (nat_le x y)) [
  | inl first ↦ rw first (low, all)
  | inr later ↦ rw later (all.0, placed_above z x ys low all.1)
]

not_le : (x y : ℕ) → nat_le x y ≡ false → y ≤ x
not_le x y h = let off = leb-false x y h in omega (arith, off)

placed_rises : (x : ℕ) (ys : List ℕ) → Rises ys → Rises (with_number x ys)
placed_rises x [] r = (tt, tt)
placed_rises x (y ∷ ys) r = elim (cases_Bool (nat_le x y)) [
  | inl first ↦ let low = leb-true x y first in rw first ((low, all_above x y ys low r.0), r)
  | inr later ↦ rw later (placed_above y x ys (not_le x y later) r.0, placed_rises x ys r.1)
]

order_rises : (xs : List ℕ) → Rises (numbers_in_order xs)
order_rises [] = tt
order_rises (x ∷ xs) = placed_rises x (numbers_in_order xs) (order_rises xs)

-- ---- from a place on

all_counted : (c : ℕ) (xs : List ℕ) → AllByRecursion (λ y. c ≤ y) xs → at_least_in c xs ≡ length xs
all_counted c [] all = refl
all_counted c (x ∷ xs) all = let rest = all_counted c xs all.1 in rw (le-leb c x all.0) (omega (arith, rest))

-- of numbers that rise all from a place on are at least the one there
from_place : (f c : ℕ) (xs : List ℕ) → Rises xs → c ≤ slice_index xs f → length xs ≤ f + at_least_in c xs
from_place f c [] r low = omega arith
from_place zero c (x ∷ xs) r low = let all = all_counted c (x ∷ xs) (low, all_above c x xs low r.0) in omega (arith, all)
from_place (suc f) c (x ∷ xs) r low = let rest = from_place f c xs r.1 low in omega (arith, rest)

-- ---- the others

more_count : (c : ℕ) (xs ys : List ℕ) → at_least_in c (xs ++ ys) ≡ at_least_in c xs + at_least_in c ys
more_count c [] ys = omega arith
more_count c (x ∷ xs) ys = let rest = more_count c xs ys in omega (arith, rest)

filter_more : (q : ℕ → Bool) (xs ys : List ℕ) → filter q (xs ++ ys) ≡ filter q xs ++ filter q ys
filter_more q [] ys = refl
filter_more q (x ∷ xs) ys = by_test (q x) (filter_more q xs ys)
  where
    by_test : (b : Bool) → filter q (xs ++ ys) ≡ filter q xs ++ filter q ys
        → cond b (x ∷ filter q (xs ++ ys)) (filter q (xs ++ ys)) ≡ cond b (x ∷ filter q xs) (filter q xs) ++ filter q ys
    by_test true e = ap (λ (zs : List ℕ). x ∷ zs) e
    by_test false e = e

one_counted : (c : ℕ) (h : ℕ → ℕ) (q : ℕ → Bool) (n : ℕ) → at_least_in c (map h (filter q (n ∷ []))) ≡ one_if (q n && nat_le c (h n))
one_counted c h q n = elim (cases_Bool (q n)) [
  | inl kept ↦ rw kept (omega arith)
  | inr left ↦ rw left refl
]

counted : (c : ℕ) (h : ℕ → ℕ) (q : ℕ → Bool) (n : ℕ) → at_least_in c (map h (filter q (numbers_below n))) ≡ count_below n (λ y. q y && nat_le c (h y))
unfolding count_below
counted c h q zero = refl
counted c h q (suc n) =
    let cut = ap (λ (zs : List ℕ). at_least_in c (map h zs)) (filter_more q (numbers_below n) (n ∷ [])) in
    let parts = ap (at_least_in c) (map-append h (filter q (numbers_below n)) (filter q (n ∷ []))) in
    let sum = more_count c (map h (filter q (numbers_below n))) (map h (filter q (n ∷ []))) in
    let one = one_counted c h q n in
    let rest = counted c h q n in
    omega (arith, cut, parts, sum, one, rest)

one_long : (h : ℕ → ℕ) (q : ℕ → Bool) (n : ℕ) → length (map h (filter q (n ∷ []))) ≡ one_if (q n)
one_long h q n = elim (cases_Bool (q n)) [
  | inl kept ↦ rw kept refl
  | inr left ↦ rw left refl
]

long : (h : ℕ → ℕ) (q : ℕ → Bool) (n : ℕ) → length (map h (filter q (numbers_below n))) ≡ count_below n q
unfolding count_below
long h q zero = refl
long h q (suc n) =
    let cut = ap (λ (zs : List ℕ). length (map h zs)) (filter_more q (numbers_below n) (n ∷ [])) in
    let parts = ap length (map-append h (filter q (numbers_below n)) (filter q (n ∷ []))) in
    let sum = length-append (map h (filter q (numbers_below n))) (map h (filter q (n ∷ []))) in
    let one = one_long h q n in
    let rest = long h q n in
    omega (arith, cut, parts, sum, one, rest)

eqb_back : (x y : ℕ) → eqb x y ≡ eqb y x
eqb_back x y = by_tests (eqb x y) refl (eqb y x) refl
  where
    by_tests : (a : Bool) → eqb x y ≡ a → (b : Bool) → eqb y x ≡ b → a ≡ b
    by_tests true e true f = refl
    by_tests true e false f = true_and_false (eqb y x) (eq-eqb y x (sym (eqb-true x y e))) f
    by_tests false e true f = true_and_false (eqb x y) (eq-eqb x y (sym (eqb-true y x f))) e
    by_tests false e false f = refl

pub commit_counts : (f me c : ℕ) (ack : List ℕ) → me < replica_count f → 0 < c → c ≤ commit_point f me ack
    → slow_quorum f ≤ count_below (replica_count f) (λ y. eqb me y || nat_le c (slice_index ack y))
commit_counts f me c ack member some low =
    let n = replica_count f in
    let q : ℕ → Bool = λ r. not (eqb r me) in
    let test : ℕ → Bool = λ y. q y && nat_le c (slice_index ack y) in
    let acks_of_others = map (slice_index ack) (others f me) in
    let far = from_place f c (numbers_in_order acks_of_others) (order_rises acks_of_others) low in
    let size = order_long acks_of_others in
    let same_count = order_count c acks_of_others in
    let few = long (slice_index ack) q n in
    let own = count_same n q (all_but me) (λ x lt. ap not (eqb_back x me)) in
    let all = count_all_but n me member in
    let many = counted c (slice_index ack) q n in
    let apart : test me ≡ false = rw (eq-eqb me me refl) refl in
    let more = count_add n me test member apart in
    let is = count_same n (λ x. eqb me x || test x) (λ y. eqb me y || nat_le c (slice_index ack y)) (λ x lt. either x (eqb me x) refl) in
    omega (arith, far, size, same_count, few, own, all, many, more, is)
  where
    either : (x : ℕ) (b : Bool) → eqb me x ≡ b → (eqb me x || (not (eqb x me) && nat_le c (slice_index ack x))) ≡ (eqb me x || nat_le c (slice_index ack x))
    either x true e = rw e refl
    either x false e = rw (e, eqb_back x me ∙ e) refl
