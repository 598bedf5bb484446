-- What the function of this folder owes, proved.
use Rattle.nz_math.proofs.Counting as proved
use Rattle.nz_math.proofs.laws.member_outside.Goals as goal

pub returns : goal.returns
returns c = proved.member_outside
