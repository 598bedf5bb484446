-- What the function of this folder owes, proved.
use Rattle.std.proofs.Common.{◌≡◌, sym, subst, ◌∙◌}
use Rattle.std.specs.Prelude.{IfOk}
use Rattle.nz_check.specs.declared.verdict.Verdict.{Verdict}
use Rattle.nz_check.proofs.Whole.{long_is, said_is, refused_is, is_over, is_read, is_judged}
use Rattle.nz_check.proofs.checking.check.Goals as goal

pub line_of_limit-line-requires : goal.line_of_limit-line-requires
line_of_limit-line-requires c = is_over c.args.printed.now (sym c.is_long.ensures ∙ c.if-is_long.true)

pub returns-then-is_long : goal.returns-then-is_long
returns-then-is_long c = long_is c.args.printed.now c.line_of_limit-line.result (sym c.is_long.ensures ∙ c.if-is_long.true) c.line_of_limit-line.ensures

pub read_text-requires : goal.read_text-requires
read_text-requires c = is_read c.args.printed.now (sym c.is_long.ensures ∙ c.if-is_long.false)

pub judge-requires : goal.judge-requires
judge-requires c = is_judged c.args.printed.now c.in-Ok.said (sym c.is_long.ensures ∙ c.if-is_long.false) c.in-Ok.ensures.ok

pub returns-in-Ok : goal.returns-in-Ok
returns-in-Ok c =
    subst (λ (w : Verdict). IfOk c.judge.result (λ (v : Verdict). v ≡ w))
    (sym (said_is c.args.printed.now c.in-Ok.said (sym c.is_long.ensures ∙ c.if-is_long.false) c.in-Ok.ensures.ok)) c.judge.ensures

pub returns-in-Err : goal.returns-in-Err
returns-in-Err c =
    refused_is c.args.printed.now c.in-Err.fault c.refused.result (sym c.is_long.ensures ∙ c.if-is_long.false) c.in-Err.ensures.refused c.refused.ensures
