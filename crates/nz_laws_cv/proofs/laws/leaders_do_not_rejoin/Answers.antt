-- What the function of this folder owes, proved.
use Rattle.nz_laws_cv.specs.Tests.{notions}
use Rattle.nz_laws_cv.proofs.Leading.{before_begin}
use Rattle.nz_laws_cv.proofs.Whole as proved
use Rattle.nz_laws_cv.proofs.laws.leaders_do_not_rejoin.Goals as goal

pub returns : goal.returns
returns g c = λ t J v r K h at is. before_begin (notions t) J h.modes (proved.views (notions t) J h) v r K at is
