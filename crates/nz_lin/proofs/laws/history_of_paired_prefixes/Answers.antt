-- What the function of this folder owes, proved.
use Rattle.nz_lin.proofs.OneHistory.{history_of_pairs}
use Rattle.nz_lin.proofs.laws.history_of_paired_prefixes.Goals as goal

pub returns : goal.returns
returns c = history_of_pairs
