-- What the loops of the function of this folder keep.
use Rattle.std.proofs.Common.{◌≡◌, map, take}
use Rattle.nz_fabric.specs.schedule.Posting.{arrival_of, arrivals_up_to}
use Rattle.nz_fabric.proofs.schedule.calendar.arrivals_of.Given as goal

abbrev pub invariant-loop-delivery : goal.invariant-loop-delivery
invariant-loop-delivery l = l.arrivals.items ≡ arrivals_up_to l.last (map (arrival_of l.parcel) (take l.delivery-index l.deliveries))
