-- What the loops of the function of this folder keep.
use Rattle.std.proofs.Common.{◌≡◌, ℕ, length, take, get_or}
use Rattle.std.specs.Prelude.{count_by}
use Rattle.nz_quiet.specs.Pace.{took, above_all}
use Rattle.nz_quiet.proofs.pace_lines.counts_of.Given as goal

abbrev pub invariant-loop-pace : goal.invariant-loop-pace
invariant-loop-pace l = record {
  len : length l.counts.items ≡ above_all (take l.pace-index l.paces);
  counts : (n : ℕ) → get_or l.counts.items n 0 ≡ count_by (took n) (take l.pace-index l.paces);
}
