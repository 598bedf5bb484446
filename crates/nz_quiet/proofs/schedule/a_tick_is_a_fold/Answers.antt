-- What the function of this folder owes, proved.
use Rattle.nz_quiet.proofs.QuietDue.{due_first, due_quiet}
use Rattle.nz_quiet.proofs.Folds.{tick_state}
use Rattle.nz_quiet.proofs.schedule.a_tick_is_a_fold.Goals as goal

pub returns-clause-first : goal.returns-clause-first
returns-clause-first c = due_first

pub returns-clause-due : goal.returns-clause-due
returns-clause-due c = due_quiet

pub returns-clause-state : goal.returns-clause-state
returns-clause-state c = tick_state
