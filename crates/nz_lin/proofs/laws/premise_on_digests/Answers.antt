-- What the function of this folder owes, proved.
use Rattle.nz_lin.proofs.Replied.{no_collision_listed}
use Rattle.nz_lin.proofs.laws.premise_on_digests.Goals as goal

pub returns : goal.returns
returns c = no_collision_listed
