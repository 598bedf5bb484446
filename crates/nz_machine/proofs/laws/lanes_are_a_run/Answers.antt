-- What the function of this folder owes, proved.
use Rattle.nz_machine.proofs.runs.Deploying.{deployment_is_run, run_is_deployment}
use Rattle.nz_machine.proofs.laws.lanes_are_a_run.Goals as goal

pub returns : goal.returns
returns c = λ g J. (deployment_is_run g J, run_is_deployment g J)
