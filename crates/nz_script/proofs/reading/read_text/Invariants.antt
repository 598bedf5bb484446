-- What the loops of the function of this folder keep.
use Rattle.std.proofs.Common.{◌≡◌, ◌≤◌, ◌+◌, length}
use Rattle.nz_script.specs.Bytes.{lines_in, tail_in}
use Rattle.nz_script.specs.Drafts.{first_draft}
use Rattle.nz_script.specs.Reading.{scenario_from}
use Rattle.nz_script.proofs.reading.read_text.Given as goal

-- the answer is that of the lines that are left, and lines have been counted by their newlines
abbrev pub invariant-loop-bytes : goal.invariant-loop-bytes
invariant-loop-bytes l = record {
  same : scenario_from l.long (tail_in l.rest) l.line l.draft (lines_in l.rest) ≡ scenario_from l.long (tail_in l.text) 1 first_draft (lines_in l.text);
  counted : l.line + length l.rest ≤ 1048577;
}

abbrev pub decreases-loop-bytes : goal.decreases-loop-bytes
decreases-loop-bytes l = length l.rest
