-- What the loops of the function of this folder keep.
use Rattle.std.proofs.Common.{◌++◌, ◌≤◌, ℕ, List, take, drop}
use Rattle.nz_machine.specs.runs.Schedule.{Posted}
use Rattle.nz_fabric.specs.schedule.Calendars.{Represents, posted_by}
use Rattle.nz_fabric.proofs.schedule.posting.post_all.Given as goal

abbrev pub invariant-loop-place : goal.invariant-loop-place
invariant-loop-place l = record {
  from : l.from ≤ l.place;
  posted : (L : List Posted) (now : ℕ) → Represents l.scenario L now l.initial.calendar
      → Represents l.scenario (L ++ posted_by (drop l.from (take l.place l.records.records))) now l.calendar;
}
