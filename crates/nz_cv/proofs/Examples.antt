-- The definitions at vectors of three replicas, worked by hand.
use Rattle.std.proofs.Common.{◌≡◌, true, false, [], ◌∷◌, refl}
use Rattle.nz_cv.specs.Vectors.{merged_vector, is_stray, all_merged}

-- replica 1 keeps its own counter, which the other vector has higher
pub merged_at_one : merged_vector (0 ∷ 2 ∷ 1 ∷ []) (1 ∷ 5 ∷ 0 ∷ []) 1 ≡ 1 ∷ 2 ∷ 1 ∷ []
merged_at_one = refl

pub two_merged_at_zero : all_merged (0 ∷ 0 ∷ 0 ∷ []) ((1, 3 ∷ 1 ∷ 0 ∷ []) ∷ (2, 0 ∷ 0 ∷ 4 ∷ []) ∷ []) 0 ≡ 0 ∷ 1 ∷ 4 ∷ []
two_merged_at_zero = refl

pub stray_below : is_stray (0 ∷ 1 ∷ 9 ∷ []) 1 (0 ∷ 2 ∷ 0 ∷ []) ≡ true
stray_below = refl

pub not_stray_at_equal : is_stray (0 ∷ 2 ∷ 9 ∷ []) 1 (0 ∷ 2 ∷ 10 ∷ []) ≡ false
not_stray_at_equal = refl
