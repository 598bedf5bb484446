-- What the function of this folder owes, proved.
use Rattle.nz_math.proofs.Sharing as proved
use Rattle.nz_math.proofs.laws.more_than_half.Goals as goal

pub returns : goal.returns
returns c = proved.more_than_half
