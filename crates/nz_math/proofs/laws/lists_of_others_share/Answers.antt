-- What the function of this folder owes, proved.
use Rattle.nz_math.proofs.Sharing as proved
use Rattle.nz_math.proofs.laws.lists_of_others_share.Goals as goal

pub returns : goal.returns
returns c = proved.others_share
