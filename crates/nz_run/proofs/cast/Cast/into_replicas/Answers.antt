-- What the function of this folder owes, proved.
use Rattle.nz_run.proofs.LastCores.{are_cores}
use Rattle.nz_run.proofs.cast.Cast.into_replicas.Goals as goal

pub returns-clause-cores : goal.returns-clause-cores
returns-clause-cores c = λ g J h. are_cores g J c.args.self.replicas.items h.replicas
