-- What the function of this folder owes, proved.
use Rattle.nz_script.proofs.Generated.{generated_runnable}
use Rattle.nz_script.proofs.laws.what_is_drawn_can_be_run.Goals as goal

pub returns : goal.returns
returns c = generated_runnable
