-- What the function of this folder owes, proved.
use Rattle.std.proofs.Common.{sym, ◌∙◌}
use Rattle.nz_quorum.proofs.Choosing.{slow_decides}
use Rattle.nz_quorum.proofs.tally.Tally.decide.Goals as goal

pub returns-in_ok-lead-in-None-clause-chosen : goal.returns-in_ok-lead-in-None-clause-chosen
returns-in_ok-lead-in-None-clause-chosen c =
    c.decided-in-None.ensures.chosen
    ∙ (rw (← c.self.view_is) (rw (← c.as_slice-replies.ensures)
    (sym (slow_decides _ _ _ (sym c.in-None.ensures.lead) (sym c.in_ok-lead-in-None.ensures.lead)))))
