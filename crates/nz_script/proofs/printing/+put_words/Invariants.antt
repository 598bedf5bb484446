-- What the loops of the function of this folder keep.
use Rattle.std.proofs.Common.{length}
use Rattle.nz_script.proofs.printing.+put_words.Given as goal

abbrev pub decreases-put_words : goal.decreases-put_words
decreases-put_words l = length l.words.now
