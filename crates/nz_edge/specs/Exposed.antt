-- What a source has left and what a sink has taken, where they expose it.
use Rattle.std.specs.Prelude.{ℕ, ◌≡◌, List, ◌++◌, Option}
use Rattle.std.specs.Option.{option_map}

-- The exposed bytes lost these at their beginning; where none were exposed, none are after.
abbrev pub Loses : Option (List ℕ) → Option (List ℕ) → List ℕ → Type 0
Loses before after bytes = before ≡ option_map (λ rest. bytes ++ rest) after

-- The exposed bytes grew by these at their end; where none were exposed, none are after.
abbrev pub Gains : Option (List ℕ) → Option (List ℕ) → List ℕ → Type 0
Gains before after bytes = after ≡ option_map (λ taken. taken ++ bytes) before
