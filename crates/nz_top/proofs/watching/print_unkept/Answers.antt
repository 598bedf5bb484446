-- What the function of this folder owes, proved.
use Rattle.std.proofs.Common.{◌≡◌, ◌∙◌}
use Rattle.nz_top.proofs.Watches.{unkept_is_printed}
use Rattle.nz_top.proofs.watching.print_unkept.Goals as goal

pub returns : goal.returns
returns c =
    let gone = c.into_forgotten-scenario.ensures in
    let watched = c.in_ok-playing.ensures in
    unkept_is_printed c.args.report.now c.args.scenario.now _ c.into_forgotten-scenario.result.0 c.into_forgotten-scenario.result.1
    c.as_slice.result.now c.replicas-replicas.result.now c.in-Some.bytes watched.watched watched.scenario watched.last
    gone.scenario gone.records gone.in_order gone.world (λ g J noted. c.as_slice.ensures ∙ c.into_events-events.ensures g J noted)
    c.replicas-replicas.ensures.cores (rw c.in-Some.is at c.in_ok-bytes.ensures)
