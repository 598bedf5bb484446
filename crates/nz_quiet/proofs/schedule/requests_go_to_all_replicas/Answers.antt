-- What the function of this folder owes, proved.
use Rattle.nz_quiet.proofs.SameBodies.{same_bodies}
use Rattle.nz_quiet.proofs.schedule.requests_go_to_all_replicas.Goals as goal

pub returns : goal.returns
returns c = same_bodies
