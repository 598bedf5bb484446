-- What the loops of the function of this folder keep.
use Rattle.std.specs.Prelude.{◌-◌, length}
use Rattle.nz_fabric.specs.threads.Shared.{IsWhole}
use Rattle.nz_run.proofs.threads.finish.Given as goal

abbrev pub invariant-left : goal.invariant-left
invariant-left g l = IsWhole l.share

abbrev pub decreases-left : goal.decreases-left
decreases-left g l = length l.state.run.items - l.state.run.next
