-- What the loops of the function of this folder keep.
use Rattle.std.proofs.Common.{◌≡◌, ◌++◌, drop}
use Rattle.std.specs.List.{flat_map}
use Rattle.nz_text.specs.Text.{open_line}
use Rattle.nz_text.proofs.lines.put_opens.Given as goal

-- what was written, and the lines that are left after it
abbrev pub invariant-loop-id : goal.invariant-loop-id
invariant-loop-id l = l.out.items ++ flat_map open_line (drop l.id-index l.ids) ≡ l.fn.out.items ++ flat_map open_line l.ids
