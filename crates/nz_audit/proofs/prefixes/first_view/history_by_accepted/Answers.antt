-- What the function of this folder owes, proved.
use Rattle.std.proofs.Common.{[], ◌∙◌, sym, ap}
use Rattle.nz_machine.specs.journals.Journals.{group_in, run_in, executed_entries}
use Rattle.nz_audit.specs.Prefixes.{longest_from, prefixes_in}
use Rattle.nz_audit.proofs.SearchFinds.{within_log}
use Rattle.nz_audit.proofs.FirstView.{longest_of_log, history_in_log}
use Rattle.nz_audit.proofs.prefixes.first_view.history_by_accepted.Goals as goal

pub execute-requires : goal.execute-requires
execute-requires c =
    let log = c.in-Some.log.now.entries in
    let answers = c.args.accepted.now in
    let count = c.longest_in.ensures in
    within_log c.longest_in.result log (longest_from [] (prefixes_in log answers)) count (longest_of_log log answers c.longest_in.result count)

pub returns-in_ok-execute-in-Some : goal.returns-in_ok-execute-in-Some
returns-in_ok-execute-in-Some c = λ journal same cores are_accepted.
    let log = c.in-Some.log.now.entries in
    let answers = c.args.accepted.now in
    let only = c.in-Some.ensures (group_in journal) (run_in journal) same cores in
    c.in_ok-execute-in-Some.ensures
    ∙ ap executed_entries (longest_of_log log answers c.longest_in.result c.longest_in.ensures ∙ sym (history_in_log journal answers log are_accepted only))
