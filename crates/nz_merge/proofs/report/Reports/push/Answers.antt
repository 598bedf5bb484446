-- What the function of this folder owes, proved.
use Rattle.std.proofs.Common.{◌≡◌, false, List, sym, subst}
use Rattle.nz_merge.specs.Sender.{has_sender, HaveOwnSenders}
use Rattle.nz_merge.specs.declared.report.Report.{Report}
use Rattle.nz_merge.proofs.OwnSenders.{own_senders_push}
use Rattle.nz_merge.proofs.report.Reports.push.Goals as goal

pub invariant_of-self-2 : goal.invariant_of-self-2
invariant_of-self-2 c =
    subst HaveOwnSenders (sym c.in_ok-push.ensures.items)
    (own_senders_push c.self.inside.reports.items c.args.report c.self.invariant
    (subst (λ (xs : List Report). has_sender xs c.args.report.sender ≡ false) (sym c.self.view_is) c.requires))
