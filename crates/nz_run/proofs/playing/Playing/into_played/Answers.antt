-- What the function of this folder owes, proved.
use Rattle.std.proofs.Common.{List, sym, subst}
use Rattle.nz_base.specs.declared.scenario.Scenario.{Scenario}
use Rattle.nz_machine.specs.declared.event.Record.{Record}
use Rattle.nz_machine.specs.journals.Journals.{run_in}
use Rattle.nz_machine.specs.runs.Schedule.{group_of}
use Rattle.nz_replica.specs.Models.{AreCores}
use Rattle.nz_run.specs.Playing.{run_of, scenario_of}
use Rattle.nz_run.proofs.playing.Playing.into_played.Goals as goal

pub returns-clause-replicas : goal.returns-clause-replicas
returns-clause-replicas c =
    let p = c.args.self in
    let cores = c.into_replicas.result.items in
    let journal = c.in-Some.journal in
    subst (λ (s : Scenario). AreCores (group_of s) (run_in journal) cores) (sym c.in-Some.ensures.scenario)
    (subst (λ (J : List Record). AreCores (group_of (scenario_of p)) J cores) (sym c.in-Some.ensures.records)
    (c.into_replicas.ensures.cores (group_of (scenario_of p)) (run_of p) c.requires.at_end.under_way.is_cast))
