-- What the function of this folder owes, proved.
use Rattle.std.proofs.Common.{ap, ◌∙◌}
use Rattle.nz_check.specs.Checked.{checked}
use Rattle.nz_top.proofs.Checks.{judged_is_input}
use Rattle.nz_top.proofs.Inputs.{read_is_input}
use Rattle.nz_top.proofs.checking.judge_input.Goals as goal

pub returns-in-Ok-check-clause-verdict : goal.returns-in-Ok-check-clause-verdict
returns-in-Ok-check-clause-verdict g c =
    let read = read_is_input _ (g.S.Source.left c.args.source.now) _ c.in-Ok.bytes.items c.in-Ok.ensures.lost c.in-Ok.ensures.most c.in-Ok.ensures.end in
    judged_is_input (g.S.Source.left c.args.source.now) c.in-Ok.bytes.items c.in-Ok-check.verdict read (c.in-Ok-check.ensures ∙ ap checked c.deref.ensures.value)
