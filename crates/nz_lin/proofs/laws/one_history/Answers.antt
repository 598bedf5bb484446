-- What the function of this folder owes, proved.
use Rattle.nz_lin.proofs.OneHistory.{one_history}
use Rattle.nz_lin.proofs.laws.one_history.Goals as goal

pub returns : goal.returns
returns c = one_history
