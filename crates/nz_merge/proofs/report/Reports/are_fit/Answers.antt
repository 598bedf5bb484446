-- What the function of this folder owes, proved.
use Rattle.std.proofs.Common.{◌≡◌, ap, sym, ◌∙◌}
use Rattle.nz_merge.specs.Fit.{are_fit}
use Rattle.nz_merge.proofs.Fitting.{fit_yes, fit_is}
use Rattle.nz_merge.proofs.report.Reports.are_fit.Goals as goal

pub returns : goal.returns
returns c =
    let same : c.all_fit.result ≡ are_fit c.args.self.now = c.all_fit.ensures ∙ ap are_fit (c.deref.ensures.value ∙ c.self.view_is) in
    (λ h. fit_yes c.args.self.now (sym same ∙ h), λ fit. same ∙ fit_is c.args.self.now fit)
