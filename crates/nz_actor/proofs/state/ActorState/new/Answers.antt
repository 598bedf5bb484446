-- What the function of this folder owes, proved.
use Rattle.nz_machine.specs.runs.Schedule.{group_of}
use Rattle.nz_actor.proofs.Batches.{acting_first}
use Rattle.nz_actor.proofs.state.ActorState.new.Goals as goal

pub invariant_of-result : goal.invariant_of-result
invariant_of-result g c =
    let group = group_of g.N.RunName.scenario in
    let core = c.args.core in
    acting_first group (g.C.Core.meaning core) (g.C.Core.live core) (g.C.Core.fits core group) c.args.lane
    c.requires.fits c.requires.first c.requires.live c.requires.lane
