-- What the loops of the function of this folder keep.
use Rattle.std.proofs.Common.{take}
use Rattle.nz_fabric.specs.schedule.Calendars.{AreMarked}
use Rattle.nz_fabric.proofs.schedule.kinds.marks_of.Given as goal

abbrev pub invariant-loop-fault : goal.invariant-loop-fault
invariant-loop-fault l = AreMarked (take l.fault-index l.faults) l.marks
