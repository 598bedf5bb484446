-- What the loops of the function of this folder keep.
use Rattle.std.proofs.Common.{length}
use Rattle.nz_machine.proofs.facts.Takes.{AreMoving}
use Rattle.nz_machine.proofs.sync_keys.move_below.Given as goal

abbrev pub invariant-below : goal.invariant-below
invariant-below l = AreMoving l.last l.early l.late l.initial.early l.initial.late

abbrev pub decreases-below : goal.decreases-below
decreases-below l = length l.early
