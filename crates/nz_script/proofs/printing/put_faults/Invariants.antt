-- What the loops of the function of this folder keep.
use Rattle.std.proofs.Common.{◌≡◌, ◌++◌, drop, map}
use Rattle.nz_script.specs.Texts.{text_of_lines, fault_line}
use Rattle.nz_script.proofs.printing.put_faults.Given as goal

-- what was written, and the lines that are left after it
abbrev pub invariant-loop-fault : goal.invariant-loop-fault
invariant-loop-fault l = l.out.items ++ text_of_lines (map fault_line (drop l.fault-index l.faults)) ≡ l.fn.out.items ++ text_of_lines (map fault_line l.faults)
