-- What the function of this folder owes, proved.
use Rattle.std.proofs.Common.{◌∙◌, sym, rules}
use Rattle.nz_script.specs.Bytes.{space}
use Rattle.nz_script.proofs.Cuts.{shorter, words-skip, words-cut, words-one}
use Rattle.nz_script.proofs.pieces.next_word.Goals as goal

pub returns-then-not-is_empty : goal.returns-then-not-is_empty
returns-then-not-is_empty c =
    sym c.loop-word.invariant ∙ words-cut c.loop-word.rest.now c.in-Some.word.now c.in-Some.later.now
    (first_of (cc, search rules)) (sym c.in-Some.ensures)

pub loop-word-smaller : goal.loop-word-smaller
loop-word-smaller c = shorter space c.loop-word.rest.now c.in-Some.word.now c.in-Some.later.now (sym c.in-Some.ensures)

pub loop-word-preserved : goal.loop-word-preserved
loop-word-preserved c =
    sym (words-skip c.loop-word.rest.now c.in-Some.word.now c.in-Some.later.now (first_of (cc, search rules))
    (sym c.in-Some.ensures)) ∙ c.loop-word.invariant

pub returns-else-is_empty : goal.returns-else-is_empty
returns-else-is_empty c = sym c.loop-word.invariant ∙ words-one c.loop-word.rest.now (first_of (cc, search rules)) (sym c.in_default.ensures)
