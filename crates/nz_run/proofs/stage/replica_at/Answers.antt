-- What the function of this folder owes, proved.
use Rattle.std.proofs.Common.{◌≡◌, ap, arith}
use Rattle.nz_base.specs.Actor.{number_of}
use Rattle.nz_machine.specs.runs.Schedule.{group_of}
use Rattle.nz_fabric.specs.alone.States.{records_of}
use Rattle.nz_run.proofs.LastCores.{core_there}
use Rattle.nz_run.proofs.stage.replica_at.Goals as goal

pub returns-in-Replica : goal.returns-in-Replica
returns-in-Replica g c =
    let core = c.in_ok-core.core in
    let own : number_of c.actor.result ≡ core.model.me = ap number_of c.actor.ensures in
    let read : number_of c.actor.result ≡ c.in-Replica.number = ap number_of c.in-Replica.is in
    core_there (group_of g.N.RunName.scenario) (records_of c.args.state.now.run) c.args.place core
    (omega (arith, own, read, c.from.ensures, c.if-from-place.true)) c.in_ok-core.ensures.fits c.in_ok-core.ensures.there
