-- What the function of this folder owes, proved.
use Rattle.std.proofs.Common.{sym, ◌∙◌}
use Rattle.nz_replay.proofs.Replays.{core_steps, core_stays}
use Rattle.nz_replay.proofs.replaying.replay_one.Goals as goal

pub returns-in_ok-step-clause-core : goal.returns-in_ok-step-clause-core
returns-in_ok-step-clause-core c = λ g J h.
    core_steps g c.args.number c.args.next.now J c.args.core.now c.step.new.self c.in_ok-step.field-0
    (sym c.is.ensures.value ∙ c.if-is.true) (c.in_ok-step.ensures.step g h.cluster) c.in_ok-step.ensures.live
    (c.in_ok-step.ensures.fits g h.cluster) h

pub returns-else-is-clause-core : goal.returns-else-is-clause-core
returns-else-is-clause-core c = λ g J h. core_stays g c.args.number c.args.next.now J c.args.core.now (sym c.is.ensures.value ∙ c.if-is.false) h
