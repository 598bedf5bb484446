-- What the function of this folder owes, proved.
use Rattle.nz_laws_cv.proofs.Example as proved
use Rattle.nz_laws_cv.proofs.laws.a_run_has_the_ground.Goals as goal

pub returns : goal.returns
returns c = proved.ground
