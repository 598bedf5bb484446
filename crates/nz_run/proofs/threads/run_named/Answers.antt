-- What the function of this folder owes, proved.
use Rattle.std.proofs.Common.{◌≡◌, ◌∙◌, List, sym, subst}
use Rattle.nz_base.specs.declared.scenario.Scenario.{Scenario}
use Rattle.nz_machine.specs.declared.event.Record.{Record}
use Rattle.nz_machine.specs.journals.Journals.{run_in}
use Rattle.nz_machine.specs.runs.Schedule.{group_of, Scheduled}
use Rattle.nz_machine.specs.runs.World.{World}
use Rattle.nz_machine.specs.runs.Steps.{AreSteps}
use Rattle.nz_replica.specs.Models.{AreCores}
use Rattle.nz_machine.proofs.runs.Replaying.{world_now}
use Rattle.nz_run.proofs.threads.run_named.Goals as goal

pub returns-clause-run : goal.returns-clause-run
returns-clause-run g c =
    let j = c.into_journal.result in
    let known = c.into_journal.ensures in
    let name = sym c.requires.scenario in
    let s = c.args.scenario.now in
    let same : j.scenario ≡ s = known.scenario ∙ name in
    let scheduled : Scheduled s (run_in j) = subst (λ (t : Scenario). Scheduled t (run_in j)) name known.scheduled in
    let steps : AreSteps (group_of s) (run_in j) = subst (λ (t : Scenario). AreSteps (group_of t) (run_in j)) name known.steps in (
      same,
      (
        scheduled,
        subst (λ (t : Scenario). World (group_of t) (run_in j)) (sym same)
            (world_now s s.ticks (run_in j) c.requires.playable scheduled steps),
      ),
    )

pub returns-clause-replicas : goal.returns-clause-replicas
returns-clause-replicas g c =
    let known = c.into_journal.ensures in
    subst (λ (s : Scenario). AreCores (group_of s) (run_in c.into_journal.result) c.in_ok-replicas.replicas.items) (sym known.scenario)
    (subst (λ (J : List Record). AreCores (group_of g.N.RunName.scenario) J c.in_ok-replicas.replicas.items) (sym known.records) c.in_ok-replicas.ensures)
