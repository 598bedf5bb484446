-- What the function of this folder owes, proved.
use Rattle.nz_math.proofs.Sharing as proved
use Rattle.nz_math.proofs.laws.rest_meets_slow_of_others.Goals as goal

pub returns : goal.returns
returns c = proved.slow_and_rest
