-- What the function of this folder owes, proved.
use Rattle.std.proofs.Common.{◌≡◌, ◌∙◌, ◌++◌, List, ℕ, sym, ap, subst}
use Rattle.std.specs.Prelude.{codes}
use Rattle.std.proofs.lemmas.Option.{IfSome_then}
use Rattle.std.proofs.lemmas.Result.{IfOk-weaker}
use Rattle.nz_base.specs.declared.scenario.Scenario.{Scenario}
use Rattle.nz_machine.specs.journals.Journals.{group_in, run_in}
use Rattle.nz_observe.specs.Observed.{observed}
use Rattle.nz_top.specs.declared.reports.Report.{Report}
use Rattle.nz_top.specs.Reports.{printed_by}
use Rattle.nz_top.specs.Watching.{HasObserved}
use Rattle.nz_top.proofs.reports.Report.print_events.Goals as goal

pub returns-in-Summary : goal.returns-in-Summary
returns-in-Summary c = IfOk-weaker c.first_summary.result _ _ (λ o printed. IfSome_then o printed (λ bytes is j same world events cores seen.
    is (group_in j) (run_in j) (ap (λ (s : Scenario). s.cluster) same) world events cores
    ∙ ap (λ (report : Report). printed_by report j) (sym c.in-Summary.is))) c.first_summary.ensures

pub returns-in_ok-headed-in-Some : goal.returns-in_ok-headed-in-Some
returns-in_ok-headed-in-Some c = λ j same world events cores seen.
    let text = c.in-Some.text in
    let is = rw c.in-Some.is at c.in_ok-text-in-Peek.ensures in
    let text_is = is (group_in j) (run_in j) (ap (λ (s : Scenario). s.cluster) same) world events cores in
    let head_is = c.into_blob.ensures (group_in j) c.in-Peek.replica c.in-Peek.key j.scenario.ticks (run_in j)
    (subst (λ (report : Report). HasObserved report (group_in j) j.scenario.ticks (run_in j) c.args.observer) c.in-Peek.is seen) in
    c.in_ok-headed-in-Some.ensures
    ∙ ap (λ (head : List ℕ). head ++ (codes "text\n" ++ text)) head_is
    ∙ ap (λ (rest : List ℕ). observed (group_in j) c.in-Peek.replica c.in-Peek.key (run_in j) j.scenario.ticks ++ (codes "text\n" ++ rest)) text_is
    ∙ ap (λ (report : Report). printed_by report j) (sym c.in-Peek.is)
