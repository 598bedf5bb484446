-- What the function of this folder owes, proved.
use Rattle.std.proofs.Common.{sym, refl, ◌∙◌}
use Rattle.std.proofs.lemmas.Bool.{eqb-true}
use Rattle.nz_script.specs.Bytes.{space}
use Rattle.nz_script.proofs.Cuts.{shorter}
use Rattle.nz_text.specs.Reading.{pieces_in}
use Rattle.nz_text.proofs.LongLines.{too_many}
use Rattle.nz_text.proofs.Pieces.{next_piece, last_piece}
use Rattle.nz_text.proofs.line.pieces.Goals as goal

pub loop-word-smaller : goal.loop-word-smaller
loop-word-smaller c = shorter space c.loop-word.rest.now c.in-Some.word.now c.in-Some.later.now (sym c.in-Some.ensures)

pub loop-word-preserved : goal.loop-word-preserved
loop-word-preserved c =
    next_piece (λ w. w.now) c.loop-word.words.items c.push.new.self.items c.in-Some.word c.loop-word.rest.now
    c.in-Some.later.now (pieces_in c.args.line.now) (sym c.in-Some.ensures) c.push.ensures.items c.loop-word.invariant

pub returns-clause-all : goal.returns-clause-all
returns-clause-all c =
    last_piece (λ w. w.now) c.loop-word.words.items c.push-2.new.self.items c.loop-word.rest c.loop-word.rest.now
    (pieces_in c.args.line.now) (sym c.in_default.ensures) refl c.push-2.ensures.items c.loop-word.invariant

pub returns-then-is_full-clause-many : goal.returns-then-is_full-clause-many
returns-then-is_full-clause-many c =
    too_many (λ w. w.now) c.loop-word.words.items c.loop-word.rest.now _ 11
    (eqb-true _ 11 (sym c.is_full.ensures.value ∙ c.if-is_full.true)) c.loop-word.invariant

pub returns-then-is_full-2-clause-many : goal.returns-then-is_full-2-clause-many
returns-then-is_full-2-clause-many c =
    too_many (λ w. w.now) c.loop-word.words.items c.loop-word.rest.now _ 11
    (eqb-true _ 11 (sym c.is_full-2.ensures.value ∙ c.if-is_full-2.true)) c.loop-word.invariant
