-- What the loops of the function of this folder keep.
use Rattle.std.proofs.Common.{◌≡◌, List, map, take}
use Rattle.nz_machine.specs.declared.event.Parcel.{Parcel}
use Rattle.nz_machine.specs.runs.Schedule.{Delivery, after_faults}
use Rattle.nz_fabric.specs.schedule.Posting.{delivery_as_stored, HasNumber}
use Rattle.nz_fabric.proofs.schedule.faults.faulted_by_all.Given as goal

abbrev pub invariant-loop-fault : goal.invariant-loop-fault
invariant-loop-fault l = (earlier : List Parcel) (ds : List Delivery) → HasNumber earlier l.parcel l.number
    → l.initial.deliveries.items ≡ map delivery_as_stored ds
    → l.deliveries.items ≡ map delivery_as_stored (after_faults l.tick earlier l.parcel (take l.fault-index l.faults) ds)
