-- What the function of this folder owes, proved.
use Rattle.nz_laws_cv.proofs.Known.{reported_to}
use Rattle.nz_laws_cv.proofs.laws.begins_are_reported.Goals as goal

pub returns : goal.returns
returns c = reported_to
