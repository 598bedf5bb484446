-- A test that is passed and failed, and how many items pass one.
use Rattle.std.proofs.Common.{◌≡◌, ◌≤◌, Bool, true, false, List, length, sym, ◌∙◌}
use Rattle.std.proofs.lemmas.Bool.{true≢false}
use Rattle.std.specs.List.{filter}
use Rattle.std.proofs.lemmas.List.Sums.{length-filter, count_by-le-length}

-- no test is passed and failed
pub true_and_false : {A : Type 0} (a : Bool) → a ≡ true → a ≡ false → A
true_and_false a h k = absurd (true≢false (sym h ∙ k))

pub length-filter_le : {X : Type 0} (p : X → Bool) (xs : List X) → length (filter p xs) ≤ length xs
length-filter_le p xs = rw (length-filter p xs) (count_by-le-length p xs)
