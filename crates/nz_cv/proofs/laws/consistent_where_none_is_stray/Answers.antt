-- What the function of this folder owes, proved.
use Rattle.nz_cv.proofs.Collecting.{crash_consistency}
use Rattle.nz_cv.proofs.laws.consistent_where_none_is_stray.Goals as goal

pub returns : goal.returns
returns c = crash_consistency
