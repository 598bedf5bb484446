-- What the function of this folder owes, proved.
use Rattle.std.proofs.Common.{◌≡◌, ◌+◌, ℕ, [], List, length, take, drop, sym, ap, ◌∙◌, arith}
use Rattle.nz_base.specs.declared.key.Id.{Id}
use Rattle.nz_check.specs.declared.verdict.Verdict.TheVariants.{No}
use Rattle.nz_check.specs.declared.verdict.Why.TheVariants.{Open}
use Rattle.nz_check.specs.Checked.{first_line, whys, open_why}
use Rattle.nz_check.proofs.Passes.{no_line}
use Rattle.nz_check.proofs.OpenPass.{open_next, open_wrong}
use Rattle.nz_check.proofs.opens.check_opens.Goals as goal

pub loop-id-preserved : goal.loop-id-preserved
loop-id-preserved c =
    let p = c.args.printed.now in
    let n = length p.events + 1 + c.loop-id.place in
    let ids = c.as_slice-ids.result.now in
    let same = c.loop-id.invariant.place in
    let next : n + 1 ≡ length p.events + 1 + (c.loop-id.place + 1) = omega arith in
    record {
      place = omega (arith, same);
      first = ap (λ (m : ℕ). first_line m (whys (open_why p) (take (c.loop-id.id-index + 1) ids) (drop (c.loop-id.id-index + 1) ids))) (sym next)
          ∙ open_next p ids c.args.unanswered.now c.loop-id.id-index n c.loop-id.place _ c.is_due.result _ c.loop-id-test.true c.requires.open same
          c.is_due.ensures c.if-not-is_due.false c.loop-id.invariant.first;
    }

pub returns-then-not-is_due : goal.returns-then-not-is_due
returns-then-not-is_due c =
    let p = c.args.printed.now in
    let n = length p.events + 1 + c.loop-id.place in
    let ids = c.as_slice-ids.result.now in
    let counted : c.len-above.result ≡ length p.events = c.len-above.ensures in
    let line : c.len-above.result + c.loop-id.place + 1 ≡ n = omega (arith, counted) in
    ap (λ (m : ℕ). No m Open) line
    ∙ open_wrong p ids c.args.unanswered.now c.loop-id.id-index n c.loop-id.place _ c.is_due.result _ c.loop-id-test.true c.requires.open
    c.loop-id.invariant.place c.is_due.ensures c.if-not-is_due.true c.loop-id.invariant.first
    ∙ ap (λ (l : List Id). first_line (length p.events + 1) (whys (open_why p) [] l)) c.as_slice-ids.ensures

pub returns : goal.returns
returns c =
    let p = c.args.printed.now in
    no_line (open_why p) c.as_slice-ids.result.now c.loop-id.id-index (length p.events + 1 + c.loop-id.place) _ c.loop-id-test.false c.loop-id.invariant.first
    ∙ ap (λ (l : List Id). first_line (length p.events + 1) (whys (open_why p) [] l)) c.as_slice-ids.ensures
