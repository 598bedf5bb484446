-- What the function of this folder owes, proved.
use Rattle.nz_machine.specs.runs.Schedule.{group_of}
use Rattle.nz_actor.specs.Actings.{sends_in}
use Rattle.nz_run.proofs.Settling.{same_items}
use Rattle.nz_run.proofs.stage.settle_at.Goals as goal

pub returns-clause-run : goal.returns-clause-run
returns-clause-run g c =
    let sends = sends_in (group_of g.N.RunName.scenario) c.state-own.result.now.own c.args.batch in
    same_items c.args.state.now c.settle.new.fabric c.args.batch.number sends c.settle.result c.settle.ensures.fabric
