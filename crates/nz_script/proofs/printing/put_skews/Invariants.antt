-- What the loops of the function of this folder keep.
use Rattle.std.proofs.Common.{◌≡◌, ◌++◌, drop, map}
use Rattle.nz_script.specs.Texts.{text_of_lines, skew_line}
use Rattle.nz_script.proofs.printing.put_skews.Given as goal

-- what was written, and the lines that are left after it
abbrev pub invariant-loop-skew : goal.invariant-loop-skew
invariant-loop-skew l = l.out.items ++ text_of_lines (map skew_line (drop l.skew-index l.skews)) ≡ l.fn.out.items ++ text_of_lines (map skew_line l.skews)
