-- What the loops of the function of this folder keep.
use Rattle.std.proofs.Common.{◌≡◌, ◌++◌, drop}
use Rattle.nz_script.specs.Texts.{text_of_lines, script_lines}
use Rattle.nz_script.proofs.printing.put_script.Given as goal

-- what was written, and the lines that are left after it
abbrev pub invariant-loop-request : goal.invariant-loop-request
invariant-loop-request l = l.out.items ++ text_of_lines (script_lines (drop l.request-index l.script)) ≡ l.fn.out.items ++ text_of_lines (script_lines l.script)
