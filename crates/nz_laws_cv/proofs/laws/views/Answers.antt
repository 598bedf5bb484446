-- What the function of this folder owes, proved.
use Rattle.nz_laws_cv.proofs.Showing.{shows}
use Rattle.nz_laws_cv.proofs.Known.{views_of}
use Rattle.nz_laws_cv.proofs.laws.views.Goals as goal

pub returns : goal.returns
returns c = λ g J w. views_of g J w (shows g J w)
