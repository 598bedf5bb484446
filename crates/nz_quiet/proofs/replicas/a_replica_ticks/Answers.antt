-- What the function of this folder owes, proved.
use Rattle.nz_quiet.proofs.ReplicaTicks.{ticks}
use Rattle.nz_quiet.proofs.replicas.a_replica_ticks.Goals as goal

pub returns : goal.returns
returns c = ticks
