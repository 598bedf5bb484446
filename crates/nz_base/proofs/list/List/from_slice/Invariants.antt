-- What the loops of the function of this folder keep.
use Rattle.std.proofs.Common.{◌≡◌, take, length}
use Rattle.std.specs.Prelude.{vec_capacity}
use Rattle.nz_base.proofs.list.List.from_slice.Given as goal

-- the items so far, with room for all
abbrev pub invariant-loop-item : goal.invariant-loop-item
invariant-loop-item g l = (l.copies.items ≡ take l.item-index l.items) × (vec_capacity l.copies ≡ length l.items)
