-- What the function of this folder owes, proved.
use Rattle.std.proofs.Common.{◌∙◌, length}
use Rattle.nz_fabric.proofs.calendars.Dating.{rooms_more}
use Rattle.nz_fabric.proofs.schedule.calendar.reserve_all.Goals as goal

pub loop-arrival-preserved : goal.loop-arrival-preserved
loop-arrival-preserved c = record {
  same = λ t. c.reserve.ensures.same t ∙ c.loop-arrival.invariant.same t;
  rooms =
      rooms_more (length c.args.arrivals.now) c.loop-arrival.days.items c.reserve.new.days.items c.args.arrivals.now
      c.loop-arrival.arrival-index c.arrival-item.result c.loop-arrival-test.true c.arrival-item.is c.reserve.ensures.rooms c.in_ok-reserve.ensures.room
      c.loop-arrival.invariant.rooms;
}
