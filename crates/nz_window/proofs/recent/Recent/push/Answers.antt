-- What the function of this folder owes, proved.
use Rattle.nz_window.proofs.Pushing.{pushed-full}
use Rattle.nz_window.proofs.recent.Recent.push.Goals as goal

pub returns-else-self-lt-KEPT : goal.returns-else-self-lt-KEPT
returns-else-self-lt-KEPT c =
    pushed-full c.self.inside.samples c.rotate_left.new.self c.args.self.now c.self.inside.count c.args.delay
    c.self.invariant c.if-self-lt-KEPT.false c.self.view_is c.rotate_left.ensures.after
