-- What the loops of the function of this folder keep.
use Rattle.std.proofs.Common.{◌≡◌, ◌≤◌, ℕ, take}
use Rattle.nz_machine.specs.runs.Schedule.{calls}
use Rattle.nz_fabric.specs.schedule.Dues.{restarts_in}
use Rattle.nz_fabric.specs.schedule.Numbered.{items_under}
use Rattle.nz_fabric.proofs.schedule.due.calls_of.Given as goal

abbrev pub invariant-loop-fault : goal.invariant-loop-fault
invariant-loop-fault l = record {
  few : l.restarts ≤ l.fault-index;
  restarts : l.restarts ≡ restarts_in (take l.fault-index l.faults);
  items : (tick : ℕ) → items_under l.asked tick ≡ calls tick 0 (take l.fault-index l.faults);
}
