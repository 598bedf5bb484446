-- What the function of this folder owes, proved.
use Rattle.nz_machine.proofs.runs.Due.{release_due}
use Rattle.nz_machine.proofs.laws.due_entries_are_released.Goals as goal

pub returns-clause-log : goal.returns-clause-log
returns-clause-log c f me s clock h normal few = (release_due f me s clock h normal few).log

pub returns-clause-early : goal.returns-clause-early
returns-clause-early c f me s clock h normal few = (release_due f me s clock h normal few).early
