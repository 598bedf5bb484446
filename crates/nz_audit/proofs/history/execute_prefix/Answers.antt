-- What the function of this folder owes, proved.
use Rattle.std.proofs.Common.{◌≡◌, List, IfOk, subst}
use Rattle.std.specs.Prelude.{IfSome}
use Rattle.nz_base.specs.declared.key.Entry.{Entry}
use Rattle.nz_machine.specs.journals.Journals.{executed_entries}
use Rattle.nz_audit.specs.Prefixes.{prefix_for, HasPrefix}
use Rattle.nz_audit.proofs.SearchFinds.{log_taken, within_log}
use Rattle.nz_audit.proofs.history.execute_prefix.Goals as goal

pub execute-requires : goal.execute-requires
execute-requires c =
    let b = c.args.best in
    let P = prefix_for c.args.journal.now b.answer in
    let log = c.in-Some.log.now.entries in
    let cut : HasPrefix c.args.journal.now b.answer log =
    subst (λ o. IfSome o (λ x. HasPrefix c.args.journal.now b.answer x.now.entries)) c.in-Some.is c.in_ok-log.ensures in
    within_log b.entries log P c.requires.counted (log_taken b.answer.accepted.id log P b.entries cut c.requires.counted)

pub returns-in-Some : goal.returns-in-Some
returns-in-Some c =
    let b = c.args.best in
    let P = prefix_for c.args.journal.now b.answer in
    let log = c.in-Some.log.now.entries in
    let cut : HasPrefix c.args.journal.now b.answer log =
    subst (λ o. IfSome o (λ x. HasPrefix c.args.journal.now b.answer x.now.entries)) c.in-Some.is c.in_ok-log.ensures in
    subst (λ (es : List Entry). IfOk c.execute.result (λ x. x ≡ executed_entries es))
    (log_taken b.answer.accepted.id log P b.entries cut c.requires.counted) c.execute.ensures
