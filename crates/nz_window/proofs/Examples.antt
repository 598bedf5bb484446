-- The definitions at samples worked by hand.
use Rattle.std.proofs.Common.{◌≡◌, [], ◌∷◌, refl}
use Rattle.nz_window.specs.Samples.{with_sample, median, bound_of}

pub median_of_three : median (40 ∷ 10 ∷ 30 ∷ []) ≡ 30
median_of_three = refl

-- of 10, 20, 30 and 40 the one at place 2 from 0
pub median_of_four : median (40 ∷ 10 ∷ 30 ∷ 20 ∷ []) ≡ 30
median_of_four = refl

pub greatest_of_three : bound_of ((40 ∷ 10 ∷ 30 ∷ []) ∷ (70 ∷ []) ∷ (60 ∷ 5 ∷ []) ∷ []) ≡ 70
greatest_of_three = refl

pub one_without_samples : bound_of ((40 ∷ []) ∷ [] ∷ (60 ∷ []) ∷ []) ≡ 10000
one_without_samples = refl

pub second_replica_sampled : with_sample ([] ∷ (7 ∷ []) ∷ []) 1 50000 ≡ [] ∷ (7 ∷ 10000 ∷ []) ∷ []
second_replica_sampled = refl
