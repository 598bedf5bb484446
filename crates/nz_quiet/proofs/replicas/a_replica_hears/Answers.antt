-- What the function of this folder owes, proved.
use Rattle.nz_quiet.proofs.ReplicaHears.{hears}
use Rattle.nz_quiet.proofs.replicas.a_replica_hears.Goals as goal

pub returns : goal.returns
returns c = hears
