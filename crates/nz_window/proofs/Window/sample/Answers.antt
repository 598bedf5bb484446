-- What the function of this folder owes, proved.
use Rattle.std.proofs.Common.{arith}
use Rattle.nz_window.proofs.Pushing.{take-sampled}
use Rattle.nz_window.proofs.Window.sample.Goals as goal

pub returns : goal.returns
returns c =
    take-sampled c.self.inside.replicas c.args.self.now c.self.inside.size c.args.replica c.args.delay c.min.result
    c.index-self-replica.result _ c.self.view_is (omega arith) c.requires c.min.ensures c.push.ensures
