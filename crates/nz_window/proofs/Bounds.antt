-- What is kept of any samples: at most 32 of each replica, each at most 10,000, and so is the bound.
use Rattle.std.proofs.Common.{◌≡◌, ℕ, ◌-◌, ◌<◌, ◌≤◌, ◌/◌, Bool, true, false, List, [], ◌∷◌, ◌++◌}
use Rattle.std.proofs.Common.{◌==◌, map, fold, max, min, length, get_or, All, arith, ◌∙◌, ⊎_elim}
use Rattle.std.specs.Prelude.{if◌then◌else◌}
use Rattle.std.specs.List.{list_any}
use Rattle.std.proofs.lemmas.Bool.{cases_lt}
use Rattle.std.proofs.lemmas.List.{length-drop, length-set, length-replicate, get_or_past}
use Rattle.std.proofs.lemmas.List.Elements.{All-nil, All-head, All-tail, All-replicate, All-get_or, All-set, All-push, All-drop}
use Rattle.std.proofs.lemmas.List.Sorted.{All-permutation}
use Rattle.nz_window.specs.Samples.{AreKept, last_32, numbers_in_order, median, WindowsStart, WindowsStay, BoundIsBounded}
use Rattle.nz_window.proofs.Order.{in_order-permutes}

pub windows_start : WindowsStart
windows_start size = record {
  replicas = length-replicate size [];
  kept = All-replicate AreKept size [] (record { few = omega arith; small = All-nil (λ s. s ≤ 10000) });
}

last_32-kept : (samples : List ℕ) (delay : ℕ) → AreKept samples → AreKept (last_32 (samples ++ min delay 10000 ∷ []))
last_32-kept samples delay kept =
    let longer : List ℕ = samples ++ min delay 10000 ∷ [] in
    record {
      few = let e : length (last_32 longer) ≡ length longer - (length longer - 32) = length-drop (length longer - 32) longer in omega arith;
      small = All-drop (λ s. s ≤ 10000) (length longer - 32) longer (All-push (λ s. s ≤ 10000) samples (min delay 10000) kept.small (omega arith));
    }

pub windows_stay : WindowsStay
windows_stay window size replica delay is_window within =
    record {
      replicas = length-set window replica (last_32 (get_or window replica [] ++ min delay 10000 ∷ [])) ∙ is_window.replicas;
      kept = All-set AreKept window replica (last_32 (get_or window replica [] ++ min delay 10000 ∷ []))
          (last_32-kept (get_or window replica []) delay
          (All-get_or AreKept window replica [] (omega (arith, is_window.replicas)) is_window.kept)) is_window.kept;
    }

median-bounded : (samples : List ℕ) → AreKept samples → median samples ≤ 10000
median-bounded samples kept = ⊎_elim
    (λ (within : length samples / 2 < length (numbers_in_order samples)).
    All-permutation (λ s. s ≤ 10000) samples (numbers_in_order samples) (in_order-permutes samples) kept.small (length samples / 2) 0 within)
    (λ (past : length (numbers_in_order samples) ≤ length samples / 2). let none : median samples
    ≡ 0 = get_or_past (numbers_in_order samples) (length samples / 2) 0 past in omega arith)
    (cases_lt (length samples / 2) (length (numbers_in_order samples)))

pub greatest-bounded : (window : List (List ℕ)) (most : ℕ) → most ≤ 10000 → All AreKept window → fold max most (map median window) ≤ 10000
greatest-bounded [] most small kept = small
greatest-bounded (samples ∷ window) most small kept =
    let one : median samples ≤ 10000 = median-bounded samples (All-head AreKept samples window kept) in
    greatest-bounded window (max most (median samples)) (omega arith) (All-tail AreKept samples window kept)

either_bounded : (b : Bool) (m n : ℕ) → m ≤ 10000 → n ≤ 10000 → (if b then m else n) ≤ 10000
either_bounded true m n first second = first
either_bounded false m n first second = second

pub bound_is_bounded : BoundIsBounded
bound_is_bounded window size is_window =
    either_bounded (list_any (λ samples. length samples == 0) window) 10000 (fold max 0 (map median window))
    (omega arith) (greatest-bounded window 0 (omega arith) is_window.kept)
