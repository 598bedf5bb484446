-- What the function of this folder owes, proved.
use Rattle.nz_run.specs.Casts.{new_replica}
use Rattle.nz_run.proofs.CoreSteps.{one_more}
use Rattle.nz_run.proofs.cast.make_replicas.Goals as goal

pub loop-me-preserved : goal.loop-me-preserved
loop-me-preserved c =
    one_more (new_replica c.args.scenario.now.cluster) c.loop-me.me c.loop-me.made.items c.push.new.self.items
    c.in_ok-new.field-0 c.loop-me.invariant c.in_ok-new.ensures c.in_ok-push.ensures.items
