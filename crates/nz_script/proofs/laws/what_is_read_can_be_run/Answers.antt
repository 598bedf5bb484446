-- What the function of this folder owes, proved.
use Rattle.nz_script.proofs.ReadIsPlayable.{read_runnable, read_short}
use Rattle.nz_script.proofs.laws.what_is_read_can_be_run.Goals as goal

pub returns-clause-run : goal.returns-clause-run
returns-clause-run c = read_runnable

pub returns-clause-short : goal.returns-clause-short
returns-clause-short c = read_short
