-- What the loops of the function of this folder keep.
use Rattle.std.proofs.Common.{◌≡◌, ℕ, length, take}
use Rattle.nz_fabric.specs.schedule.Calendars.{items_in}
use Rattle.nz_fabric.specs.schedule.Posting.{days_of, HasRooms}
use Rattle.nz_fabric.proofs.schedule.calendar.reserve_all.Given as goal

abbrev pub invariant-loop-arrival : goal.invariant-loop-arrival
invariant-loop-arrival l = record {
  same : (t : ℕ) → items_in (days_of l.days.items) t ≡ items_in (days_of l.initial.days.items) t;
  rooms : HasRooms (length l.arrivals) l.days.items (take l.arrival-index l.arrivals);
}
