-- What the function of this folder owes, proved.
use Rattle.nz_machine.proofs.runs.Deploying.{deployment_is_run}
use Rattle.nz_lin.proofs.OneHistory.{one_history}
use Rattle.nz_lin.proofs.laws.deployment_has_one_history.Goals as goal

pub returns : goal.returns
returns c = λ g J deployment. one_history g J (deployment_is_run g J deployment)
