-- How many members two quorums share.
use Rattle.std.proofs.Common.{◌≡◌, ℕ, ◌+◌, ◌*◌, ◌<◌, ◌≤◌, Bool, false, List, length, refl, arith}
use Rattle.std.proofs.lemmas.Bool.{and_parts}
use Rattle.nz_math.specs.Count.{count_below, both, everyone, all_but, is_in, IsChoice, AreTwoAmong, IsShared}
use Rattle.nz_math.specs.Quorum.{half_up, group_size, slow_quorum, fast_quorum}
use Rattle.nz_math.proofs.Counting.{counting, count_everyone, count_all_but, count_choice, member_outside, within_all_but}

-- what two sets have more than the third, they share
pub at_least : (size n k : ℕ) (p q : ℕ → Bool) → AreTwoAmong size n p q → size + k ≤ count_below n p + count_below n q → k ≤ count_below n (both p q)
at_least size n k p q h enough =
    let few = h.few in
    let sum = counting n p q h.among h.first h.second in
    omega (arith, few, sum)

pub fast_and_slow : (f n : ℕ) (p q : ℕ → Bool) → AreTwoAmong (group_size f) n p q → fast_quorum f ≤ count_below n p
    → slow_quorum f ≤ count_below n q → half_up f + 1 ≤ count_below n (both p q)
fast_and_slow f n p q h fast slow = at_least (group_size f) n (half_up f + 1) p q h (omega (arith, fast, slow))

pub more_than_half : (f : ℕ) → slow_quorum f < 2 * (half_up f + 1)
more_than_half f = omega arith

pub two_slow : (f n : ℕ) (p q : ℕ → Bool) → AreTwoAmong (group_size f) n p q → slow_quorum f ≤ count_below n p
    → slow_quorum f ≤ count_below n q → 1 ≤ count_below n (both p q)
two_slow f n p q h first second = at_least (group_size f) n 1 p q h (omega (arith, first, second))

pub two_slow_of_others : (f n : ℕ) (p q : ℕ → Bool) → AreTwoAmong (2 * f) n p q → slow_quorum f ≤ count_below n p
    → slow_quorum f ≤ count_below n q → 2 ≤ count_below n (both p q)
two_slow_of_others f n p q h first second = at_least (2 * f) n 2 p q h (omega (arith, first, second))

pub slow_and_rest : (f n : ℕ) (p q : ℕ → Bool) → AreTwoAmong (2 * f) n p q → f ≤ count_below n p
    → slow_quorum f ≤ count_below n q → 1 ≤ count_below n (both p q)
slow_and_rest f n p q h first second = at_least (2 * f) n 1 p q h (omega (arith, first, second))

shared : (n : ℕ) (xs ys left : List ℕ) → length left < count_below n (both (is_in xs) (is_in ys)) → (x : ℕ) × IsShared xs ys left x
shared n xs ys left h =
    let found = member_outside n (both (is_in xs) (is_in ys)) left h in (
      found.0,
      record {
        in_first = (and_parts (is_in xs found.0) (is_in ys found.0) found.2).0;
        in_second = (and_parts (is_in xs found.0) (is_in ys found.0) found.2).1;
        apart = found.3;
      },
    )

pub lists_share : (n : ℕ) (xs ys left : List ℕ) → IsChoice n xs → IsChoice n ys → n + length left < length xs + length ys → (x : ℕ) × IsShared xs ys left x
lists_share n xs ys left hx hy enough =
    let sum = counting n (is_in xs) (is_in ys) everyone (λ x lt h. refl) (λ x lt h. refl) in
    shared n xs ys left (omega (arith, sum, count_everyone n, count_choice n xs hx, count_choice n ys hy))

pub others_share : (n m : ℕ) (xs ys left : List ℕ) → IsChoice n xs → IsChoice n ys → m < n → is_in xs m ≡ false
    → is_in ys m ≡ false → n + length left ≤ length xs + length ys → (x : ℕ) × IsShared xs ys left x
others_share n m xs ys left hx hy lt apart_x apart_y enough =
    let sum = counting n (is_in xs) (is_in ys) (all_but m) (within_all_but n m (is_in xs) apart_x) (within_all_but n m (is_in ys) apart_y) in
    shared n xs ys left (omega (arith, sum, count_all_but n m lt, count_choice n xs hx, count_choice n ys hy))
