-- What the loops of the function of this folder keep.
use Rattle.std.proofs.Common.{[], take}
use Rattle.nz_msg.specs.Codec.{items_put}
use Rattle.nz_msg.specs.Fields.{next_entry}
use Rattle.nz_msg.specs.Writing.{Adds}
use Rattle.nz_msg.proofs.writing.put_each_entry.Given as goal

-- the items so far are written
abbrev pub invariant-loop-entry : goal.invariant-loop-entry
invariant-loop-entry g l = Adds (g.B.BufMut.written l.fn.out) (g.B.BufMut.written l.out) (items_put next_entry [] (take l.entry-index l.list))
