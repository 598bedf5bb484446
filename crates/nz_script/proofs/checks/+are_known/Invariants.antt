-- What the loops of the function of this folder keep.
use Rattle.std.proofs.Common.{length}
use Rattle.nz_script.proofs.checks.+are_known.Given as goal

abbrev pub decreases-are_known : goal.decreases-are_known
decreases-are_known l = length l.words.now
