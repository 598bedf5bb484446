-- Lists of items, each under a number.
use Rattle.std.specs.Prelude.{ℕ, ◌==◌, nat_eq, if◌then◌else◌, List, [], ◌∷◌, unwrap_or}
use Rattle.std.specs.Map.{lookup}

-- The items under a number.
abbrev pub items_under : {X : Type 0} → List (ℕ × List X) → ℕ → List X
items_under lists n = unwrap_or (lookup (nat_eq n) lists) []

-- The item, if its number is this one.
abbrev pub one_under : {X : Type 0} → ℕ → ℕ → X → List X
one_under n number x = if number == n then x ∷ [] else []
