-- What the loops of the function of this folder keep.
use Rattle.std.proofs.Common.{◌+◌, ◌*◌, [], ◌∷◌, length, take}
use Rattle.nz_msg.specs.Codec.{items_put}
use Rattle.nz_msg.specs.Fields.{u32}
use Rattle.nz_msg.specs.Writing.{Adds}
use Rattle.nz_msg.proofs.writing.put_vector.Given as goal

-- the size and the counters so far are written
abbrev pub invariant-loop-place : goal.invariant-loop-place
invariant-loop-place g l =
    Adds (length l.counters ∷ []) (take (1 + 4 * l.place) l.bytes) (items_put (λ _. u32) [] (take l.place l.counters))
