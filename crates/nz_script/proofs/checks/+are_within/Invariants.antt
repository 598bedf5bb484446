-- What the loops of the function of this folder keep.
use Rattle.std.proofs.Common.{length}
use Rattle.nz_script.proofs.checks.+are_within.Given as goal

abbrev pub decreases-are_within : goal.decreases-are_within
decreases-are_within l = length l.words.now
