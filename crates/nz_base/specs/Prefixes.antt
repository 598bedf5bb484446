-- Lists that begin with others.
use Rattle.std.specs.Prelude.{◌≡◌, ◌⊎◌, List, ◌++◌}

-- The second list begins with the first.
pub record IsPrefix {X : Type 0} (xs ys : List X) : Type 0 where
  pub rest : List X
  pub whole : ys ≡ xs ++ rest

-- One of the two lists begins with the other.
abbrev pub Comparable : {X : Type 0} → List X → List X → Type 0
Comparable xs ys = IsPrefix xs ys ⊎ IsPrefix ys xs
