-- What the loops of the function of this folder keep.
use Rattle.std.proofs.Common.{◌≡◌, ◌++◌, drop}
use Rattle.nz_script.specs.Texts.{text_of_lines, scripts_lines}
use Rattle.nz_script.proofs.printing.put_scripts.Given as goal

-- what was written, and the lines that are left after it
abbrev pub invariant-loop-script : goal.invariant-loop-script
invariant-loop-script l = record {
  written : l.out.items ++ text_of_lines (scripts_lines l.client (drop l.script-index l.scripts)) ≡ l.fn.out.items ++ text_of_lines (scripts_lines 0 l.scripts);
  counted : l.client ≡ l.script-index;
}
