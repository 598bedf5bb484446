-- What the function of this folder owes, proved.
use Rattle.nz_math.proofs.Counting as proved
use Rattle.nz_math.proofs.laws.shared_members.Goals as goal

pub returns : goal.returns
returns c = proved.counting
