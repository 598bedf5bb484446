-- What the function of this folder owes, proved.
use Rattle.std.proofs.Common.{rules, Bool, List, [], ◌∷◌, ◌++◌, ap, ◌∙◌, not, ◌==◌}
use Rattle.std.specs.List.{filter}
use Rattle.std.proofs.lemmas.Fn.{filter_same}
use Rattle.nz_machine.specs.declared.data.CollectedReport.{CollectedReport}
use Rattle.nz_machine.proofs.reports.replace_report.Goals as goal

pub returns-clause-ok : goal.returns-clause-ok
returns-clause-ok c =
    let test : CollectedReport → Bool = λ r. not (r.report.sender == c.args.reported.report.sender) in
    c.push_reserved.ensures.items
    ∙ ap (λ (xs : List CollectedReport). xs ++ c.args.reported ∷ [])
    (filter_same _ test _ (λ x b f' k. search rules) _ _ c.retain.ensures.filtered ∙ ap (filter test) c.in_ok-reserve.ensures.items)
