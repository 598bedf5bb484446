-- What the function of this folder owes, proved.
use Rattle.nz_math.proofs.Counting as proved
use Rattle.nz_math.proofs.laws.list_is_set.Goals as goal

pub returns : goal.returns
returns c = proved.count_choice
