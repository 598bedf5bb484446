-- What the loops of the function of this folder keep.
use Rattle.std.proofs.Common.{◌≡◌, ◌+◌, ◌++◌, drop}
use Rattle.nz_text.specs.Text.{at_lines}
use Rattle.nz_text.proofs.lines.put_history.Given as goal

-- what was written, and the lines that are left after it
abbrev pub invariant-loop-executed : goal.invariant-loop-executed
invariant-loop-executed l = record {
  place : l.place ≡ l.executed-index;
  written : l.out.items ++ at_lines (l.executed-index + 1) (drop l.executed-index l.history) ≡ l.fn.out.items ++ at_lines 1 l.history;
}
