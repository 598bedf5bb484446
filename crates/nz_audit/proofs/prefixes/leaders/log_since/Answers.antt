-- What the function of this folder owes, proved.
use Rattle.std.proofs.Common.{Option, ap, subst, ◌∙◌}
use Rattle.std.specs.Prelude.{ℕ, List, IfSome}
use Rattle.std.proofs.lemmas.Option.{IfSome_then}
use Rattle.nz_base.specs.declared.key.Entry.{Entry}
use Rattle.nz_machine.specs.journals.Journals.{group_in, run_in}
use Rattle.nz_machine.specs.runs.History.{cut_after}
use Rattle.nz_replay.specs.Runs.{run_up_to}
use Rattle.nz_audit.specs.Leading.{RepliesIn}
use Rattle.nz_audit.proofs.prefixes.leaders.log_since.Goals as goal

pub returns-in-Some : goal.returns-in-Some
returns-in-Some c =
    let j = c.args.journal.now in
    let a = c.args.next.now in
    let replies = subst (λ (o : Option ℕ). IfSome o (λ v. RepliesIn v (run_up_to j a.source.records))) c.in-Some.is c.in_ok-view.ensures in
    IfSome_then c.log_leading.result c.log_leading.ensures.log (λ log is.
    ap (λ (l : List Entry). cut_after a.accepted.id l) (is (group_in j) (run_in j) c.requires.replicas) ∙ c.requires.within.led c.in-Some.view replies)
