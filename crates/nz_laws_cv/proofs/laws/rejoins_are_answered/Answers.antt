-- What the function of this folder owes, proved.
use Rattle.nz_laws_cv.proofs.Known.{answered_at}
use Rattle.nz_laws_cv.proofs.laws.rejoins_are_answered.Goals as goal

pub returns : goal.returns
returns c = answered_at
