-- What the function of this folder owes, proved.
use Rattle.nz_msg.specs.Fields.{id}
use Rattle.nz_msg.proofs.Writes.{adds_none, adds_next}
use Rattle.nz_msg.proofs.writing.put_each_id.Goals as goal

pub loop-i-init : goal.loop-i-init
loop-i-init g c = adds_none (λ _. id) (g.B.BufMut.written c.args.out.now)

pub loop-i-preserved : goal.loop-i-preserved
loop-i-preserved g c =
    adds_next (λ _. id) (g.B.BufMut.written c.args.out.now) (g.B.BufMut.written c.loop-i.out)
    (g.B.BufMut.written c.put_id.new.out) c.args.list.now c.loop-i.i-index _
    c.loop-i-test.true c.loop-i.invariant c.in_ok-put_id.ensures
