-- What the loops of the function of this folder keep.
use Rattle.std.proofs.Common.{◌≡◌, take}
use Rattle.nz_machine.proofs.facts.Collects.{tells_kept}
use Rattle.nz_machine.proofs.reports.with_told.Given as goal

abbrev pub invariant-loop-other : goal.invariant-loop-other
invariant-loop-other l = l.list ≡ tells_kept l.known l.told.sender (take l.other-index l.tells)
