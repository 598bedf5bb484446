-- What the function of this folder owes, proved.
use Rattle.nz_machine.specs.journals.Journals.{run_in}
use Rattle.nz_run.proofs.CoreSteps.{if_ok}
use Rattle.nz_machine.proofs.runs.Scheduling.{scheduled_in_order}
use Rattle.nz_run.proofs.threads.run.Goals as goal

pub returns-then-workers-eq1-clause-scheduled : goal.returns-then-workers-eq1-clause-scheduled
returns-then-workers-eq1-clause-scheduled g c = let s = c.args.scenario.now in
    if_ok c.run_alone.result _ _ (λ played order. scheduled_in_order s s.ticks (run_in played.journal) order) c.run_alone.ensures.in_order

pub returns-in-None-clause-scheduled : goal.returns-in-None-clause-scheduled
returns-in-None-clause-scheduled g c =
    let s = c.args.scenario.now in
    if_ok c.run_alone-in-None.result _ _ (λ played order. scheduled_in_order s s.ticks (run_in played.journal) order) c.run_alone-in-None.ensures.in_order
