-- What the loops of the function of this folder keep.
use Rattle.std.proofs.Common.{◌≡◌, ℕ}
use Rattle.std.specs.Prelude.{◌+◌, ◌-◌, vec_len}
use Rattle.nz_fabric.specs.schedule.Calendars.{items_in}
use Rattle.nz_fabric.specs.schedule.Posting.{days_of, HasRoomFor}
use Rattle.nz_fabric.proofs.schedule.calendar.open_days.Given as goal

abbrev pub invariant-days : goal.invariant-days
invariant-days l = record {
  same : (t : ℕ) → items_in (days_of l.days.items) t ≡ items_in (days_of l.initial.days.items) t;
  rooms : (n t : ℕ) → HasRoomFor n l.initial.days.items t → HasRoomFor n l.days.items t;
}

abbrev pub decreases-days : goal.decreases-days
decreases-days l = l.tick + 1 - vec_len l.days
