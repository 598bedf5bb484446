-- What the loops of the function of this folder keep.
use Rattle.std.proofs.Common.{◌≡◌, ◌-◌, []}
use Rattle.nz_msg.specs.Codec.{items_at}
use Rattle.nz_msg.specs.Fields.{id}
use Rattle.nz_msg.proofs.Loops.{with_earlier}
use Rattle.nz_msg.proofs.lists.list_of_ids.Given as goal

-- what was read, and what is read of the rest, is what is read of all
abbrev pub invariant-loop : goal.invariant-loop
invariant-loop l = with_earlier l.ids (items_at (λ _. id) l.ids (l.count - l.counter) l.rest) ≡ items_at (λ _. id) [] l.count l.fn.bytes
