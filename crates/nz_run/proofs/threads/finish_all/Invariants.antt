-- What the loops of the function of this folder keep.
use Rattle.nz_fabric.specs.threads.Shared.{IsWhole}
use Rattle.nz_run.proofs.threads.finish_all.Given as goal

abbrev pub invariant-ticks : goal.invariant-ticks
invariant-ticks g l = IsWhole l.share
