-- What the function of this folder owes, proved.
use Rattle.nz_check.proofs.Accepted.{run_accepted}
use Rattle.nz_check.proofs.laws.accepts.Goals as goal

pub returns : goal.returns
returns c = run_accepted
