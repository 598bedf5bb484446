-- What the function of this folder owes, proved.
use Rattle.nz_locks.proofs.CleanRuns.{history_clean}
use Rattle.nz_locks.proofs.laws.histories_are_clean.Goals as goal

pub returns : goal.returns
returns c = history_clean
