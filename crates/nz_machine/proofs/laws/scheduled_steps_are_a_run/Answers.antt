-- What the function of this folder owes, proved.
use Rattle.nz_machine.proofs.runs.Replaying.{world_now}
use Rattle.nz_machine.proofs.laws.scheduled_steps_are_a_run.Goals as goal

pub returns : goal.returns
returns c = λ s J play scheduled steps. world_now s s.ticks J play scheduled steps
