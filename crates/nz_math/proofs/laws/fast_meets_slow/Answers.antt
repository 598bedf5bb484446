-- What the function of this folder owes, proved.
use Rattle.nz_math.proofs.Sharing as proved
use Rattle.nz_math.proofs.laws.fast_meets_slow.Goals as goal

pub returns : goal.returns
returns c = proved.fast_and_slow
