-- What the function of this folder owes, proved.
use Rattle.nz_node.proofs.Lanes.{lanes, outputs, nodes}
use Rattle.nz_node.proofs.laws.what_is_written_is_a_lane.Goals as goal

pub returns-clause-lane : goal.returns-clause-lane
returns-clause-lane c = lanes

pub returns-clause-output : goal.returns-clause-output
returns-clause-output c = outputs

pub returns-clause-node : goal.returns-clause-node
returns-clause-node c = nodes
