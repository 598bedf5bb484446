-- What the loops of the function of this folder keep.
use Rattle.std.proofs.Common.{◌≡◌, drop}
use Rattle.nz_machine.specs.runs.Schedule.{skew_of}
use Rattle.nz_fabric.proofs.schedule.due.units_of.Given as goal

abbrev pub invariant-loop-skew : goal.invariant-loop-skew
invariant-loop-skew l = skew_of l.actor (drop l.skew-index l.skews) ≡ skew_of l.actor l.skews
