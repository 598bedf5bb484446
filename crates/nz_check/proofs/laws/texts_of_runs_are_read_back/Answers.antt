-- What the function of this folder owes, proved.
use Rattle.nz_check.proofs.TextsOfRuns.{texts_are_read}
use Rattle.nz_check.proofs.laws.texts_of_runs_are_read_back.Goals as goal

pub returns : goal.returns
returns c = texts_are_read
