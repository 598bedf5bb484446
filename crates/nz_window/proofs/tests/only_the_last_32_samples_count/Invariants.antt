-- What the loops of the function of this folder keep.
use Rattle.std.proofs.Common.{◌≡◌, length}
use Rattle.nz_window.proofs.tests.only_the_last_32_samples_count.Given as goal

abbrev pub invariant-loop-delay : goal.invariant-loop-delay
invariant-loop-delay g l = length l.window ≡ 1
