-- What the function of this folder owes, proved.
use Rattle.std.proofs.Common.{sym, arith}
use Rattle.nz_actor.proofs.Batches.{node_at_next, sends_at_next}
use Rattle.nz_actor.proofs.steps.step_all.Goals as goal

pub loop-event-preserved : goal.loop-event-preserved
loop-event-preserved g c =
    let kept = c.loop-event.invariant in
    let i = c.loop-event.event-index in
    let first = g.C.Core.meaning c.args.core.now in
    let now = g.C.Core.meaning c.loop-event.core in
    let new = g.C.Core.meaning c.step.new.self in
    record {
      len = omega (arith, kept.len, c.push_reserved.ensures.len);
      room = omega (arith, kept.room, c.push_reserved.ensures.capacity);
      live = c.in_ok-sends.ensures.live;
      fits = λ h fits. c.step.ensures.fits h (kept.fits h fits);
      node = λ h fits. node_at_next h first now new c.args.events.now i c.event-item.result c.in_ok-sends.sends
          c.loop-event-test.true (sym c.event-item.is) (kept.node h fits) (c.in_ok-sends.ensures.step h (kept.fits h fits));
      sends = λ h fits. sends_at_next h first now new c.args.events.now i c.event-item.result c.in_ok-sends.sends
          c.loop-event.all.items c.push_reserved.new.self.items c.loop-event-test.true (sym c.event-item.is)
          (kept.node h fits) (kept.sends h fits) (c.in_ok-sends.ensures.step h (kept.fits h fits)) c.push_reserved.ensures.items;
    }
