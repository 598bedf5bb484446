-- What the function of this folder owes, proved.
use Rattle.nz_math.proofs.Sharing as proved
use Rattle.nz_math.proofs.laws.lists_share.Goals as goal

pub returns : goal.returns
returns c = proved.lists_share
