-- Moments of a run: the run up to one of its records, or before all. The newest record comes first.
use Rattle.std.specs.Prelude.{◌≡◌, ◌⊎◌, List, [], ◌∷◌}

-- K is the run J up to some moment.
abbrev pub At : {X : Type 0} → List X → List X → Type 0
At [] K = K ≡ []
At (r ∷ J) K = (K ≡ r ∷ J) ⊎ At J K

-- K is the run J up to a moment before its last record.
abbrev pub Before : {X : Type 0} → List X → List X → Type 0
Before [] K = ⊥
Before (r ∷ J) K = At J K
