-- What the function of this folder owes, proved.
use Rattle.nz_client.proofs.Growing.{run_keeps, lane_same}
use Rattle.nz_client.proofs.laws.requests_not_due_change_nothing.Goals as goal

pub returns-clause-state : goal.returns-clause-state
returns-clause-state c = λ g later client request J more late. (run_keeps g client J).same later request more late

pub returns-clause-lane : goal.returns-clause-lane
returns-clause-lane c = lane_same
