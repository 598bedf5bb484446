-- A proxy's samples of delay as a list for each replica, the newest sample last, and the bound that it
-- reads off them (Geng et al., PVLDB 16(4)).
use Rattle.std.specs.Prelude.{◌≡◌, ◌==◌, ◌<◌, ◌≤◌, ℕ, ◌-◌, ◌/◌, nat_le, List, [], ◌∷◌, ◌++◌, length, replicate, drop, map}
use Rattle.std.specs.Prelude.{fold, max, min, slice_index, slice_index_or, slice_set, All, if◌then◌else◌, IsPermutation}
use Rattle.std.specs.List.{list_any}
use Rattle.std.specs.List.Sorted.{IsNonDecreasing}

-- What is kept of a replica's samples: the last 32.
abbrev pub last_32 : List ℕ → List ℕ
last_32 samples = drop (length samples - 32) samples

-- The samples of all replicas after one more of this replica, which counts as at most 10,000.
abbrev pub with_sample : List (List ℕ) → ℕ → ℕ → List (List ℕ)
with_sample window replica delay = slice_set window replica (last_32 (slice_index_or window replica [] ++ min delay 10000 ∷ []))

-- A number at its place in a list in rising order.
abbrev pub with_number : ℕ → List ℕ → List ℕ
with_number x [] = x ∷ []
with_number x (y ∷ ys) = if nat_le x y then x ∷ (y ∷ ys) else y ∷ with_number x ys

-- The same numbers in rising order.
abbrev pub numbers_in_order : List ℕ → List ℕ
numbers_in_order [] = []
numbers_in_order (x ∷ xs) = with_number x (numbers_in_order xs)

-- The median of k samples: that at place k / 2 of them in rising order.
abbrev pub median : List ℕ → ℕ
median samples = slice_index (numbers_in_order samples) (length samples / 2)

-- 10,000 where a replica has no sample, else the greatest of the replicas' medians.
abbrev pub bound_of : List (List ℕ) → ℕ
bound_of window = if list_any (λ samples. length samples == 0) window then 10000 else fold max 0 (map median window)

-- The numbers in rising order are the same numbers, in rising order.
abbrev pub OrdersAll : Type 0
OrdersAll = (xs : List ℕ) → IsPermutation xs (numbers_in_order xs) × IsNonDecreasing (numbers_in_order xs)

-- Samples of one replica that a window may hold.
pub record AreKept (samples : List ℕ) : Type 0 where
  pub few : length samples ≤ 32
  pub small : All (λ s. s ≤ 10000) samples

-- A window of this many replicas.
pub record IsWindow (window : List (List ℕ)) (size : ℕ) : Type 0 where
  pub replicas : length window ≡ size
  pub kept : All AreKept window

-- Without samples it is a window.
abbrev pub WindowsStart : Type 0
WindowsStart = (size : ℕ) → IsWindow (replicate size []) size

-- A window stays one, whatever is sampled.
abbrev pub WindowsStay : Type 0
WindowsStay = (window : List (List ℕ)) (size replica delay : ℕ) → IsWindow window size → replica < size → IsWindow (with_sample window replica delay) size

-- The bound of a window is at most 10,000.
abbrev pub BoundIsBounded : Type 0
BoundIsBounded = (window : List (List ℕ)) (size : ℕ) → IsWindow window size → bound_of window ≤ 10000
