-- What the function of this folder owes, proved.
use Rattle.std.proofs.Common.{arith}
use Rattle.nz_run.proofs.DealtShares.{fewer}
use Rattle.nz_run.proofs.shares.gather.Goals as goal

pub gathered-preserved : goal.gathered-preserved
gathered-preserved g c =
    let i = c.gathered.invariant in
    let e = c.in-Some-pop.ensures in
    let l = fewer (λ w. w.share.parts) (λ w. w.share.amount) c.gathered.workers.items c.pop-in-gathered.new.self.items c.in-Some-pop.worker e.items i.2 in
    (omega (arith, l.0, i.0, c.join.ensures.parts), omega (arith, l.2, i.1, c.join.ensures.amount), l.1)
