-- What the function of this folder owes, proved.
use Rattle.nz_math.proofs.Sharing as proved
use Rattle.nz_math.proofs.laws.slow_meets_slow.Goals as goal

pub returns : goal.returns
returns c = proved.two_slow
