-- What the function of this folder owes, proved.
use Rattle.std.proofs.Common.{Some, sym, ap, ◌∙◌}
use Rattle.std.proofs.lemmas.Option.{IfSome_then}
use Rattle.nz_machine.specs.journals.Journals.{group_in, run_in}
use Rattle.nz_lin.proofs.OneHistory.{one_history}
use Rattle.nz_top.proofs.Inputs.{line_written, bad_line_why}
use Rattle.nz_top.proofs.Excluded.{excludes}
use Rattle.nz_top.proofs.top.nezha.Goals as goal

pub returns-in-Ok-clause-scheduled : goal.returns-in-Ok-clause-scheduled
returns-in-Ok-clause-scheduled g c = IfSome_then c.answer.result.journal c.answer.ensures.is_run (λ j h. h.scheduled)

pub returns-in-Ok-clause-one_history : goal.returns-in-Ok-clause-one_history
returns-in-Ok-clause-one_history g c = IfSome_then c.answer.result.journal c.answer.ensures.is_run (λ j h. one_history (group_in j) (run_in j) h.world)

pub returns-in-Ok-clause-locks : goal.returns-in-Ok-clause-locks
returns-in-Ok-clause-locks g c = IfSome_then c.answer.result.journal c.answer.ensures.is_run (λ j h. excludes j h.world)

pub returns-in-Err-Refused-clause-bad_scenario : goal.returns-in-Err-Refused-clause-bad_scenario
returns-in-Err-Refused-clause-bad_scenario g c =
    λ _. bad_line_why _ c.in-Play.play _ _ _ _ _ (ap Some (sym c.in-Play.is) ∙ c.in-Some.ensures.value)
    (line_written _ (g.S.Source.left c.args.source.now) _ _ _ _ _ _ _ _ _ _ c.in-Err-Refused.field-0
    c.in-Err-Refused.field-0-is c.in-Err-Refused.line-is c.in-Err-Refused.kind-is c.in-Err-Refused.ensures.none c.write_bad_line.ensures.line)
