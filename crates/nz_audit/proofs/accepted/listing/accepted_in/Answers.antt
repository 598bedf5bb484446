-- What the function of this folder owes, proved.
use Rattle.std.proofs.Common.{List, sym, subst}
use Rattle.nz_machine.specs.journals.Journals.{run_in}
use Rattle.nz_audit.specs.declared.accepted.answers.AcceptedAt.{AcceptedAt}
use Rattle.nz_audit.specs.Prefixes.{AreAccepted}
use Rattle.nz_audit.proofs.RunAccepted.{all_read, accepted_in_run}
use Rattle.nz_audit.proofs.accepted.listing.accepted_in.Goals as goal

pub returns : goal.returns
returns c = λ journal w is.
    subst (λ (l : List AcceptedAt). AreAccepted journal (run_in journal) l)
    (sym (all_read c.args.events.now c.loop-next.next-index (record { answers = c.loop-next.accepted.items; sent = c.loop-next.sent })
    c.loop-next-test.false c.loop-next.invariant))
    (accepted_in_run journal c.args.events.now w is)
