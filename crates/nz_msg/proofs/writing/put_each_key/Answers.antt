-- What the function of this folder owes, proved.
use Rattle.nz_msg.specs.Fields.{next_key}
use Rattle.nz_msg.proofs.Writes.{adds_none, adds_next}
use Rattle.nz_msg.proofs.writing.put_each_key.Goals as goal

pub loop-k-init : goal.loop-k-init
loop-k-init g c = adds_none next_key (g.B.BufMut.written c.args.out.now)

pub loop-k-preserved : goal.loop-k-preserved
loop-k-preserved g c =
    adds_next next_key (g.B.BufMut.written c.args.out.now) (g.B.BufMut.written c.loop-k.out)
    (g.B.BufMut.written c.put_key.new.out) c.args.list.now c.loop-k.k-index _
    c.loop-k-test.true c.loop-k.invariant c.in_ok-put_key.ensures
