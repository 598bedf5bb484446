-- What the function of this folder owes, proved.
use Rattle.std.proofs.Common.{◌≡◌, List, IfOk, subst}
use Rattle.nz_base.specs.declared.key.Entry.{Entry}
use Rattle.nz_machine.specs.journals.Journals.{executed_entries}
use Rattle.nz_audit.specs.Prefixes.{prefix_for}
use Rattle.nz_audit.proofs.SearchFinds.{log_replayed, log_taken, within_log}
use Rattle.nz_audit.proofs.history.execute_replayed.Goals as goal

pub execute-requires : goal.execute-requires
execute-requires c =
    let b = c.args.best in
    let P = prefix_for c.args.journal.now b.answer in
    let log = c.log.result.now.entries in
    let cut = log_replayed c.args.journal.now b.answer c.in_ok-replayed.replayed c.log.result.now c.in_ok-replayed.ensures.source
    c.in_ok-replayed.ensures.core c.log.ensures in
    within_log b.entries log P c.requires.counted (log_taken b.answer.accepted.id log P b.entries cut c.requires.counted)

pub returns : goal.returns
returns c =
    let b = c.args.best in
    let P = prefix_for c.args.journal.now b.answer in
    let log = c.log.result.now.entries in
    let cut = log_replayed c.args.journal.now b.answer c.in_ok-replayed.replayed c.log.result.now c.in_ok-replayed.ensures.source
    c.in_ok-replayed.ensures.core c.log.ensures in
    subst (λ (es : List Entry). IfOk c.execute.result (λ x. x ≡ executed_entries es))
    (log_taken b.answer.accepted.id log P b.entries cut c.requires.counted) c.execute.ensures
