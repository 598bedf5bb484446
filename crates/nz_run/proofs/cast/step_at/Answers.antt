-- What the function of this folder owes, proved.
use Rattle.nz_run.proofs.CoreSteps.{step_result}
use Rattle.nz_run.proofs.cast.step_at.Goals as goal

pub returns-clause-step : goal.returns-clause-step
returns-clause-step g c =
    step_result c.step.result g.C.Core.meaning g.C.Core.live g.C.Core.fits c.args.cores.now.items c.args.place
    c.from.result c.index_mut.result.now c.step.new.self c.args.event.now
    c.step.ensures.step c.step.ensures.live c.step.ensures.fits c.from.ensures c.requires.place c.index_mut.ensures.value
