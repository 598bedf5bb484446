-- What the loops of the function of this folder keep.
use Rattle.std.proofs.Common.{◌≡◌, ◌≤◌, ◌+◌, length}
use Rattle.nz_script.specs.Bytes.{lines_in, tail_in}
use Rattle.nz_text.specs.Reading.{empty_draft, printed_from}
use Rattle.nz_text.proofs.reading.read_lines.Given as goal

-- the answer is that of the lines that are left, and lines have been counted by their newlines
abbrev pub invariant-loop-bytes : goal.invariant-loop-bytes
invariant-loop-bytes l = record {
  same : printed_from (tail_in l.rest) l.line l.draft (lines_in l.rest) ≡ printed_from (tail_in l.text) 1 empty_draft (lines_in l.text);
  counted : l.line + length l.rest ≤ 1 + length l.text;
}

abbrev pub decreases-loop-bytes : goal.decreases-loop-bytes
decreases-loop-bytes l = length l.rest
