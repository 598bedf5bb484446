-- What the loops of the function of this folder keep.
use Rattle.std.proofs.Common.{◌≡◌, length}
use Rattle.nz_window.proofs.tests.bound_after.Given as goal

abbrev pub invariant-loop-replica : goal.invariant-loop-replica
invariant-loop-replica l = length l.window ≡ 3
