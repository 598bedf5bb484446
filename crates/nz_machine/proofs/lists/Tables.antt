-- Lists with a number for each replica: crash vectors, and how far logs agree, as reports say.
use Rattle.std.proofs.Common.{◌≡◌, ℕ, zero, suc, ◌<◌, ◌≤◌, ◌^◌, max, nat_le, List, [], ◌∷◌, length, map, refl, sym, ap, ◌∙◌, inl, inr, arith}
use Rattle.std.proofs.lemmas.Bool.{cases_Bool}
use Rattle.std.specs.Prelude.{slice_index, slice_set}
use Rattle.std.specs.List.{AllByRecursion}
use Rattle.nz_cv.proofs.Merging.{length-greater_counters}
use Rattle.nz_cv.specs.Vectors.{greater_counters, merged_vector}
use Rattle.nz_window.specs.Samples.{with_number, numbers_in_order}
use Rattle.nz_machine.specs.rules.Facts.{AreCounters}
use Rattle.nz_machine.specs.rules.Replicas.{others}
use Rattle.nz_machine.specs.rules.LogMods.{commit_point}
use Rattle.nz_machine.proofs.lists.ListParts.{all_index}

-- ---- one number is replaced

pub set_all : (P : ℕ → Type 0) (xs : List ℕ) (i y : ℕ) → AllByRecursion P xs → P y → AllByRecursion P (slice_set xs i y)
set_all P [] i y all own = tt
set_all P (x ∷ xs) zero y all own = (own, all.1)
set_all P (x ∷ xs) (suc i) y all own = (all.0, set_all P xs i y all.1 own)

pub set_long : (xs : List ℕ) (i y : ℕ) → length (slice_set xs i y) ≡ length xs
set_long [] i y = refl
set_long (x ∷ xs) zero y = refl
set_long (x ∷ xs) (suc i) y = ap suc (set_long xs i y)

-- ---- crash vectors

greater_small : (u v : List ℕ) → AllByRecursion (λ n. n < 2 ^ 32) u → AllByRecursion (λ n. n < 2 ^ 32) v
    → AllByRecursion (λ n. n < 2 ^ 32) (greater_counters u v)
greater_small [] v p q = tt
greater_small (x ∷ u) [] p q = tt
greater_small (x ∷ u) (y ∷ v) p q = (omega (arith, p.0, q.0), greater_small u v p.1 q.1)

pub merged_counters : (f : ℕ) (u v : List ℕ) (own : ℕ) → AreCounters f u → AreCounters f v → AreCounters f (merged_vector u v own)
merged_counters f u v own p q = record {
  size = set_long (greater_counters u v) own _ ∙ length-greater_counters u v (p.size ∙ sym q.size) ∙ p.size;
  small =
      set_all (λ n. n < 2 ^ 32) (greater_counters u v) own _ (greater_small u v p.small q.small)
      (all_index (λ n. n < 2 ^ 32) u own 0 p.small (omega arith));
}

-- ---- reports

all_placed : (n x : ℕ) (ys : List ℕ) → x ≤ n → AllByRecursion (λ y. y ≤ n) ys → AllByRecursion (λ y. y ≤ n) (with_number x ys)
all_placed n x [] low all = (low, tt)
all_placed n x (y ∷ ys) low all =
    elim (cases_Bool (nat_le x y)) [
      | inl first ↦ rw first (low, all)
      | inr later ↦ rw later (all.0, all_placed n x ys low all.1)
    ]

all_in_order : (n : ℕ) (xs : List ℕ) → AllByRecursion (λ y. y ≤ n) xs → AllByRecursion (λ y. y ≤ n) (numbers_in_order xs)
all_in_order n [] all = tt
all_in_order n (x ∷ xs) all = all_placed n x (numbers_in_order xs) all.0 (all_in_order n xs all.1)

pub at_most : (n : ℕ) (xs : List ℕ) (i : ℕ) → AllByRecursion (λ y. y ≤ n) xs → slice_index xs i ≤ n
at_most n xs i all = all_index (λ y. y ≤ n) xs i 0 all (omega arith)

all_at : (n : ℕ) (xs places : List ℕ) → AllByRecursion (λ y. y ≤ n) xs → AllByRecursion (λ y. y ≤ n) (map (slice_index xs) places)
all_at n xs [] all = tt
all_at n xs (i ∷ places) all = (at_most n xs i all, all_at n xs places all)

pub reported_low : (f me n : ℕ) (ack : List ℕ) → AllByRecursion (λ y. y ≤ n) ack → commit_point f me ack ≤ n
reported_low f me n ack all = at_most n _ f (all_in_order n _ (all_at n ack (others f me) all))

-- a report of at most this many is noted
pub noted_low : (n : ℕ) (ack : List ℕ) (sender synced : ℕ) → synced ≤ n → AllByRecursion (λ y. y ≤ n) ack
    → AllByRecursion (λ y. y ≤ n) (slice_set ack sender (max (slice_index ack sender) synced))
noted_low n ack sender synced low all =
    let before = at_most n ack sender all in
    set_all (λ y. y ≤ n) ack sender _ all (omega (arith, before, low))
