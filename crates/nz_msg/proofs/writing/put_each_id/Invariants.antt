-- What the loops of the function of this folder keep.
use Rattle.std.proofs.Common.{[], take}
use Rattle.nz_msg.specs.Codec.{items_put}
use Rattle.nz_msg.specs.Fields.{id}
use Rattle.nz_msg.specs.Writing.{Adds}
use Rattle.nz_msg.proofs.writing.put_each_id.Given as goal

-- the items so far are written
abbrev pub invariant-loop-i : goal.invariant-loop-i
invariant-loop-i g l = Adds (g.B.BufMut.written l.fn.out) (g.B.BufMut.written l.out) (items_put (λ _. id) [] (take l.i-index l.list))
