-- What the function of this folder owes, proved.
use Rattle.nz_laws_commit.proofs.Rising.{views_rise}
use Rattle.nz_laws_commit.proofs.laws.views_of_a_replica_rise.Goals as goal

pub returns : goal.returns
returns c = λ g J K r v w at up normal. views_rise g J w r v K at up normal
