-- What a writer of the code adds to what was written before.
use Rattle.std.specs.Prelude.{◌≡◌, ℕ, List, ◌++◌}

-- The new bytes are the old ones and what is put after them, whatever follows.
abbrev pub Adds : List ℕ → List ℕ → (List ℕ → List ℕ) → Type 0
Adds old new put = (rest : List ℕ) → new ++ rest ≡ old ++ put rest
