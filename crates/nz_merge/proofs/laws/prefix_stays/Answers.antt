-- What the function of this folder owes, proved.
use Rattle.nz_merge.proofs.Merging as merging
use Rattle.nz_merge.proofs.laws.prefix_stays.Goals as goal

pub returns : goal.returns
returns c = merging.prefix_stays
