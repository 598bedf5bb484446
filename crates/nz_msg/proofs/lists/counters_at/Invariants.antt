-- What the loops of the function of this folder keep.
use Rattle.std.proofs.Common.{◌≡◌, ◌-◌, [], take, length}
use Rattle.nz_msg.specs.Codec.{items_at}
use Rattle.nz_msg.specs.Fields.{u32}
use Rattle.nz_msg.proofs.Loops.{with_earlier}
use Rattle.nz_msg.proofs.lists.counters_at.Given as goal

-- what was read, and what is read of the rest, is what is read of all
abbrev pub invariant-loop-place : goal.invariant-loop-place
invariant-loop-place l = record {
  nine : length l.counters ≡ 9;
  whole : with_earlier (take l.place l.counters) (items_at (λ _. u32) (take l.place l.counters) (l.size - l.place) l.rest)
      ≡ items_at (λ _. u32) [] l.size l.fn.bytes;
}
