-- What the function of this folder owes, proved.
use Rattle.std.proofs.Common.{arith}
use Rattle.nz_cv.proofs.Merging.{greater_counters-raised}
use Rattle.nz_cv.proofs.raise.Goals as goal

pub returns : goal.returns
returns c = greater_counters-raised _ _ _ _ (omega arith) (omega arith) c.loop-place.invariant
