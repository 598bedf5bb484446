-- What the loops of the function of this folder keep.
use Rattle.std.proofs.Common.{take}
use Rattle.nz_base.specs.Log.{IsLog}
use Rattle.nz_log.proofs.calls.is_log.Given as goal

abbrev pub invariant-loop-place : goal.invariant-loop-place
invariant-loop-place l = IsLog (take l.place l.list)
