-- What the loops of the function of this folder keep.
use Rattle.std.proofs.Common.{◌≡◌, ◌++◌, length, map}
use Rattle.nz_text.specs.Reading.{pieces_in}
use Rattle.nz_text.proofs.line.pieces.Given as goal

-- the words so far, and those of what is left
abbrev pub invariant-loop-word : goal.invariant-loop-word
invariant-loop-word l = map (λ w. w.now) l.words.items ++ pieces_in l.rest ≡ pieces_in l.line

abbrev pub decreases-loop-word : goal.decreases-loop-word
decreases-loop-word l = length l.rest
