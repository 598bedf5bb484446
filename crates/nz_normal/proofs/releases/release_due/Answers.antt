-- What the function of this folder owes, proved.
use Rattle.std.proofs.Common.{refl, sym, ◌∙◌}
use Rattle.nz_normal.proofs.Releasing.{goes_on, is_done, fewer}
use Rattle.nz_normal.proofs.releases.release_due.Goals as goal

pub due-smaller : goal.due-smaller
due-smaller c =
    fewer c.due.state c.release_first.new.state c.due.state.state.early refl
    (sym c.may_release.ensures ∙ c.due-test.true) c.in_ok-release_first.ensures.state

pub due-preserved : goal.due-preserved
due-preserved c =
    goes_on c.args.state.now.f c.args.state.now.me _ c.due.state c.release_first.new.state c.due.sends
    c.release_first.new.sends c.due.state.state.early refl (sym c.may_release.ensures ∙ c.due-test.true)
    c.in_ok-release_first.ensures.state c.in_ok-release_first.ensures.sends c.due.invariant

pub returns : goal.returns
returns c =
    let done = is_done c.args.state.now.f c.args.state.now.me _ c.due.state c.due.sends (sym c.may_release.ensures ∙ c.due-test.false) c.due.invariant in
    record { state = done.0; sends = done.1 }
