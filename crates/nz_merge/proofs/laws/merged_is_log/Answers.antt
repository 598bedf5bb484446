-- What the function of this folder owes, proved.
use Rattle.nz_merge.proofs.Merging as merging
use Rattle.nz_merge.proofs.laws.merged_is_log.Goals as goal

pub returns : goal.returns
returns c = merging.is_log
