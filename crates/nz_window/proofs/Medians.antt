-- The median read off a sorted copy, and the greatest of several.
use Rattle.std.proofs.Common.{◌≡◌, ℕ, ◌/◌, false, ◌==◌, List, map, fold, max, length, get_or, ◌∙◌, ap, IsPermutation}
use Rattle.std.specs.List.{list_any}
use Rattle.std.specs.List.Sorted.{IsSorted}
use Rattle.std.specs.Ordering.{nat_cmp}
use Rattle.std.proofs.lemmas.List.Sorted.{IsNonDecreasingBy-from_sort, length_permutation}
use Rattle.nz_window.specs.Samples.{numbers_in_order, median}
use Rattle.nz_window.proofs.Order.{in_order-unique}

pub median-from_sort : (samples ordered : List ℕ) → IsPermutation samples ordered → IsSorted nat_cmp ordered
    → get_or ordered (length ordered / 2) 0 ≡ median samples
median-from_sort samples ordered same sorted =
    let one : ordered ≡ numbers_in_order samples = in_order-unique samples ordered same (IsNonDecreasingBy-from_sort (λ x. x) ordered sorted) in
    ap (λ (w : List ℕ). get_or w (length ordered / 2) 0) one
    ∙ ap (λ (n : ℕ). get_or (numbers_in_order samples) (n / 2) 0) (length_permutation samples ordered same)

-- none of the replicas so far is without samples, and this is the greatest of their medians
pub record Seen (replicas : List (List ℕ)) (bound : ℕ) : Type 0 where
  pub sampled : list_any (λ samples. length samples == 0) replicas ≡ false
  pub greatest : bound ≡ fold max 0 (map median replicas)
