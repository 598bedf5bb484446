-- What the function of this folder owes, proved.
use Rattle.std.proofs.Common.{◌∙◌, sym, ap, Bool, arith}
use Rattle.nz_script.specs.Bytes.{newline}
use Rattle.nz_script.proofs.Cuts.{shorter}
use Rattle.nz_text.specs.Reading.{draft_if_good}
use Rattle.nz_text.proofs.TextLinesLeft.{good_line, bad_line, last_line}
use Rattle.nz_text.proofs.reading.read_lines.Goals as goal

pub returns-then-not-good : goal.returns-then-not-good
returns-then-not-good c =
    bad_line c.loop-bytes.rest.now c.in-Some.bytes.now c.in-Some.later.now c.loop-bytes.line c.loop-bytes.draft
    c.step.new.self _ (sym c.in-Some.ensures)
    (c.in_ok-good.ensures ∙ ap (λ (b : Bool). draft_if_good b c.step.new.self) c.if-not-good.true) c.loop-bytes.invariant.same

pub loop-bytes-smaller : goal.loop-bytes-smaller
loop-bytes-smaller c = shorter newline c.loop-bytes.rest.now c.in-Some.bytes.now c.in-Some.later.now (sym c.in-Some.ensures)

pub loop-bytes-preserved : goal.loop-bytes-preserved
loop-bytes-preserved c = record {
  same = good_line c.loop-bytes.rest.now c.in-Some.bytes.now c.in-Some.later.now c.loop-bytes.line c.loop-bytes.draft c.step.new.self _ (sym c.in-Some.ensures)
      (c.in_ok-good.ensures ∙ ap (λ (b : Bool). draft_if_good b c.step.new.self) c.if-not-good.false) c.loop-bytes.invariant.same;
  counted =
      omega (
        arith,
        c.loop-bytes.invariant.counted,
        shorter newline c.loop-bytes.rest.now c.in-Some.bytes.now c.in-Some.later.now (sym c.in-Some.ensures),
      );
}

pub returns : goal.returns
returns c = c.ending.ensures ∙ last_line c.loop-bytes.rest.now c.loop-bytes.line c.loop-bytes.draft _ (sym c.in_default.ensures) c.loop-bytes.invariant.same
