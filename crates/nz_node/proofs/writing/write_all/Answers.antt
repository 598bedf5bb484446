-- What the function of this folder owes, proved.
use Rattle.std.proofs.Common.{subst, arith, take, List, ℕ}
use Rattle.nz_edge.specs.Exposed.{Gains}
use Rattle.nz_edge.proofs.Exposed.{gains_further}
use Rattle.nz_node.proofs.writing.write_all.Goals as goal

pub loop-at-preserved : goal.loop-at-preserved
loop-at-preserved g c =
    let took =
    subst (λ (ys : List ℕ). Gains (g.K.Sink.taken c.loop-at.sink) (g.K.Sink.taken c.write.new.self)
    (take c.in_ok-at.field-0 ys)) c.split_at.ensures.back c.in_ok-at.ensures.took in (
      omega (arith, c.in_ok-at.ensures.most, c.split_at.ensures.back_len, c.loop-at.invariant.0),
      gains_further _ _ _ c.args.bytes.now c.loop-at.at c.in_ok-at.field-0 c.loop-at.invariant.1 took,
      omega (arith, c.in_ok-at.ensures.counts, c.loop-at.invariant.2),
    )
