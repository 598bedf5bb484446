-- What the loops of the function of this folder keep.
use Rattle.std.proofs.Common.{◌≡◌, take}
use Rattle.std.specs.List.{flat_map}
use Rattle.nz_locks.specs.Tenures.{hold_line}
use Rattle.nz_locks.proofs.lines.tenure_lines.Given as goal

-- the lines so far are written
abbrev pub invariant-loop-tenure : goal.invariant-loop-tenure
invariant-loop-tenure l = l.out.items ≡ flat_map hold_line (take l.tenure-index l.tenure-items)
