-- What the function of this folder owes, proved.
use Rattle.nz_machine.specs.runs.Schedule.{group_of}
use Rattle.nz_lin.proofs.Determined.{one_run}
use Rattle.nz_lin.proofs.laws.one_run_in_order.Goals as goal

pub returns : goal.returns
returns c = λ s. one_run (group_of s) s
