-- What the loops of the function of this folder keep.
use Rattle.std.proofs.Common.{◌≡◌, length}
use Rattle.nz_script.specs.Bytes.{words_in}
use Rattle.nz_script.proofs.pieces.next_word.Given as goal

abbrev pub invariant-loop-word : goal.invariant-loop-word
invariant-loop-word l = words_in l.rest ≡ words_in l.line

abbrev pub decreases-loop-word : goal.decreases-loop-word
decreases-loop-word l = length l.rest
