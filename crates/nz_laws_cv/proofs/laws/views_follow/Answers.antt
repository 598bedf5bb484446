-- What the function of this folder owes, proved.
use Rattle.nz_laws_cv.specs.Tests.{notions}
use Rattle.nz_laws_cv.proofs.Whole as proved
use Rattle.nz_laws_cv.proofs.laws.views_follow.Goals as goal

pub returns : goal.returns
returns g c = λ t J h. proved.views (notions t) J h
