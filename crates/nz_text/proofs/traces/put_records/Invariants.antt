-- What the loops of the function of this folder keep.
use Rattle.std.proofs.Common.{◌≡◌, ◌++◌, take}
use Rattle.std.specs.List.{flat_map}
use Rattle.nz_text.specs.Trace.{record_line}
use Rattle.nz_text.proofs.traces.put_records.Given as goal

-- the lines of the records so far were written
abbrev pub invariant-loop-place : goal.invariant-loop-place
invariant-loop-place l = l.out.items ≡ l.fn.out.items ++ flat_map record_line (take l.place l.records)
