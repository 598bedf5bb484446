-- What the function of this folder owes, proved.
use Rattle.std.proofs.Common.{◌∙◌, sym, ap, Option, arith}
use Rattle.nz_script.specs.declared.faults.Kind.{Kind}
use Rattle.nz_script.specs.Bytes.{newline}
use Rattle.nz_script.specs.Reading.{draft_or_kind}
use Rattle.nz_script.proofs.Cuts.{shorter}
use Rattle.nz_script.proofs.LinesLeft.{good_line, bad_line, last_line}
use Rattle.nz_script.proofs.reading.read_text.Goals as goal

pub returns-in-Some-2 : goal.returns-in-Some-2
returns-in-Some-2 c =
    bad_line c.args.long c.loop-bytes.rest.now c.in-Some.bytes.now c.in-Some.later.now c.loop-bytes.line
    c.loop-bytes.draft c.in-Some-2.kind _ (sym c.in-Some.ensures)
    (c.in_ok-kind.ensures ∙ ap (λ (o : Option Kind). draft_or_kind o c.step.new.draft) c.in-Some-2.is) c.loop-bytes.invariant.same

pub loop-bytes-smaller : goal.loop-bytes-smaller
loop-bytes-smaller c = shorter newline c.loop-bytes.rest.now c.in-Some.bytes.now c.in-Some.later.now (sym c.in-Some.ensures)

pub loop-bytes-preserved : goal.loop-bytes-preserved
loop-bytes-preserved c = record {
  same =
      good_line c.args.long c.loop-bytes.rest.now c.in-Some.bytes.now c.in-Some.later.now c.loop-bytes.line
      c.loop-bytes.draft c.step.new.draft _ (sym c.in-Some.ensures)
      (c.in_ok-kind.ensures ∙ ap (λ (o : Option Kind). draft_or_kind o c.step.new.draft) c.in_default-2.is) c.loop-bytes.invariant.same;
  counted =
      omega (
        arith,
        c.loop-bytes.invariant.counted,
        shorter newline c.loop-bytes.rest.now c.in-Some.bytes.now c.in-Some.later.now (sym c.in-Some.ensures),
      );
}

pub returns : goal.returns
returns c =
    c.ending.ensures ∙ last_line c.args.long c.loop-bytes.rest.now c.loop-bytes.line c.loop-bytes.draft _
    (sym c.in_default.ensures) c.loop-bytes.invariant.same
