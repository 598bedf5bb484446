-- What the loops of the function of this folder keep.
use Rattle.std.proofs.Common.{◌≡◌, take}
use Rattle.std.specs.Prelude.{filter}
use Rattle.nz_fabric.specs.schedule.Calendars.{may_strike, HasLines}
use Rattle.nz_fabric.proofs.schedule.course.first_traffic.Given as goal

abbrev pub invariant-loop-fault : goal.invariant-loop-fault
invariant-loop-fault l = record {
  count : l.traffic.count ≡ 1;
  lines : HasLines (filter (may_strike l.parcel.from l.parcel.to l.kind) (take l.fault-index l.faults)) l.traffic;
}
