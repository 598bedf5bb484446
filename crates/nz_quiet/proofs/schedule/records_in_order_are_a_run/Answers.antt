-- What the function of this folder owes, proved.
use Rattle.nz_machine.proofs.runs.Scheduling.{scheduled_in_order}
use Rattle.nz_machine.proofs.runs.Replaying.{world_now}
use Rattle.nz_quiet.proofs.schedule.records_in_order_are_a_run.Goals as goal

pub returns : goal.returns
returns c = λ s t J play order steps. world_now s t J play (scheduled_in_order s t J order) steps
