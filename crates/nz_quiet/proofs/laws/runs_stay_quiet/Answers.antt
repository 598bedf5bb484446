-- What the function of this folder owes, proved.
use Rattle.nz_quiet.proofs.QuietRuns.{stays_quiet}
use Rattle.nz_quiet.proofs.laws.runs_stay_quiet.Goals as goal

pub returns : goal.returns
returns c = stays_quiet
