-- What the loops of the function of this folder keep.
use Rattle.std.proofs.Common.{◌≡◌, take, map}
use Rattle.nz_top.proofs.words.Words.from_list.Given as goal

abbrev pub invariant-loop-word : goal.invariant-loop-word
invariant-loop-word l = l.words ≡ map (λ word. word.now) (take l.word-index l.list)
