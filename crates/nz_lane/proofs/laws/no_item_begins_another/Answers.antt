-- What the function of this folder owes, proved.
use Rattle.nz_lane.proofs.Streams.{same_item, same_rest}
use Rattle.nz_lane.proofs.laws.no_item_begins_another.Goals as goal

pub returns-clause-same : goal.returns-clause-same
returns-clause-same c = same_item

pub returns-clause-rest : goal.returns-clause-rest
returns-clause-rest c = same_rest
