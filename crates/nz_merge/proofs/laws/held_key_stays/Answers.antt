-- What the function of this folder owes, proved.
use Rattle.nz_merge.proofs.Merging as merging
use Rattle.nz_merge.proofs.laws.held_key_stays.Goals as goal

pub returns : goal.returns
returns c = merging.held_key
