-- What the function of this folder owes, proved.
use Rattle.nz_view.proofs.Stages.{leads_later}
use Rattle.nz_view.proofs.leading.enter_and_hear_report.Goals as goal

pub hear_report-requires-clause-leads : goal.hear_report-requires-clause-leads
hear_report-requires-clause-leads c =
    leads_later c.args.state.now c.enter_later.new.state c.args.sends.now c.enter_later.new.sends c.args.body.now.view
    c.in_ok-enter_later.ensures c.requires.low c.requires.leads
