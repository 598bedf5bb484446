-- What the function of this folder owes, proved.
use Rattle.std.proofs.Common.{[], subst}
use Rattle.nz_base.specs.declared.key.Entry.{Entry}
use Rattle.nz_msg.specs.Writing.{Adds}
use Rattle.nz_msg.specs.Fields.{next_entry}
use Rattle.nz_msg.proofs.Writes.{adds_none, adds_next}
use Rattle.nz_msg.proofs.writing.put_each_entry.Goals as goal

pub loop-entry-init : goal.loop-entry-init
loop-entry-init g c = adds_none next_entry (g.B.BufMut.written c.args.out.now)

pub loop-entry-preserved : goal.loop-entry-preserved
loop-entry-preserved g c =
    adds_next next_entry (g.B.BufMut.written c.args.out.now) (g.B.BufMut.written c.loop-entry.out) (g.B.BufMut.written c.put_entry.new.out) c.args.list.now
    c.loop-entry.entry-index c.entry-item.result c.loop-entry-test.true c.loop-entry.invariant
    (subst (λ (e : Entry). Adds (g.B.BufMut.written c.loop-entry.out) (g.B.BufMut.written c.put_entry.new.out) ((next_entry []).put e))
    c.entry-item.is c.in_ok-put_entry.ensures)
