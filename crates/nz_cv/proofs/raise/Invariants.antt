-- What the loops of the function of this folder keep.
use Rattle.nz_cv.proofs.Merging.{Raised}
use Rattle.nz_cv.proofs.raise.Given as goal

abbrev pub invariant-loop-place : goal.invariant-loop-place
invariant-loop-place l = Raised l.fn.counters l.others l.counters l.place
