-- What the loops of the function of this folder keep.
use Rattle.std.proofs.Common.{◌≡◌, ◌+◌, ◌≤◌, length}
use Rattle.std.specs.Fmt.{decimal}
use Rattle.nz_script.proofs.sizes.decimal_len.Given as goal

-- the digits that were counted and those that are left, the last one twice
abbrev pub invariant-loop-left : goal.invariant-loop-left
invariant-loop-left l = record { counted : length (decimal l.left) + l.len ≡ length (decimal l.number) + 1; below : l.left ≤ l.number }

abbrev pub decreases-loop-left : goal.decreases-loop-left
decreases-loop-left l = l.left
