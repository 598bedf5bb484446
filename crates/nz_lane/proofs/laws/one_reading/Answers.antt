-- What the function of this folder owes, proved.
use Rattle.nz_lane.proofs.Streams.{one_reading}
use Rattle.nz_lane.proofs.laws.one_reading.Goals as goal

pub returns-clause-items : goal.returns-clause-items
returns-clause-items c = λ stream items others rest end h k. (one_reading stream items others rest end h k).items_are

pub returns-clause-rest : goal.returns-clause-rest
returns-clause-rest c = λ stream items others rest end h k. (one_reading stream items others rest end h k).rest_is
