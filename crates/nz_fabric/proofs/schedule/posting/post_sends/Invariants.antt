-- What the loops of the function of this folder keep.
use Rattle.std.proofs.Common.{◌++◌, ℕ, List, map, take}
use Rattle.nz_machine.specs.runs.Schedule.{Posted, posted_in}
use Rattle.nz_fabric.specs.schedule.Calendars.{Represents}
use Rattle.nz_fabric.proofs.schedule.posting.post_sends.Given as goal

abbrev pub invariant-loop-parcel : goal.invariant-loop-parcel
invariant-loop-parcel l =
    (L : List Posted) (now : ℕ) → Represents l.scenario L now l.initial.calendar
    → Represents l.scenario (L ++ map (posted_in l.tick) (take l.parcel-index l.sends)) now l.calendar
