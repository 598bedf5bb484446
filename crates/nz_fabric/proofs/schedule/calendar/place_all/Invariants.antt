-- What the loops of the function of this folder keep.
use Rattle.std.proofs.Common.{◌≡◌, ◌-◌, ◌++◌, ℕ, length}
use Rattle.nz_fabric.specs.schedule.Calendars.{items_in}
use Rattle.nz_fabric.specs.schedule.Posting.{days_of, items_arriving, HasRooms, AreShort}
use Rattle.nz_fabric.proofs.schedule.calendar.place_all.Given as goal

abbrev pub invariant-loop-arrival : goal.invariant-loop-arrival
invariant-loop-arrival l = record {
  whole : l.yielded ++ l.arrival-iterator ≡ l.fn.arrivals.items;
  short : AreShort l.days.items;
  rooms : HasRooms (length l.fn.arrivals.items - length l.yielded) l.days.items l.fn.arrivals.items;
  placed : (t : ℕ) → items_in (days_of l.days.items) t ≡ items_in (days_of l.fn.days.items) t ++ items_arriving t l.yielded;
}
