-- What the function of this folder owes, proved.
use Rattle.std.proofs.Common.{List, sym, subst}
use Rattle.nz_machine.specs.runs.Schedule.{group_of}
use Rattle.nz_replica.specs.Models.{AreCores, ReplicaCore}
use Rattle.nz_run.specs.Playing.{run_of, scenario_of}
use Rattle.nz_run.proofs.LastCores.{are_cores}
use Rattle.nz_run.proofs.playing.Playing.replicas.Goals as goal

pub returns-clause-cores : goal.returns-clause-cores
returns-clause-cores c =
    let p = c.args.self.now in
    let g = group_of (scenario_of p) in
    subst (λ (cores : List ReplicaCore). AreCores g (run_of p) cores) (sym c.as_slice.ensures.value)
    (are_cores g (run_of p) p.cast.replicas.items c.requires.under_way.is_cast.replicas)
