-- What the function of this folder owes, proved.
use Rattle.std.proofs.Common.{◌≡◌, ℕ, ◌<◌, ◌≤◌, sym, ap, subst, arith}
use Rattle.nz_base.specs.declared.actor.Actor.{Actor}
use Rattle.nz_replay.proofs.Replays.{run_then}
use Rattle.nz_observe.specs.Following.{AreUpTo, IsEndOf}
use Rattle.nz_observe.proofs.Places.{item_at}
use Rattle.nz_observe.proofs.Rising.{ends_before, ends_last}
use Rattle.nz_observe.proofs.following.follow_to.Goals as goal

pub returns-then-when-tick-clause-end : goal.returns-then-when-tick-clause-end
returns-then-when-tick-clause-end c =
    let j = c.args.journal.now in
    let k = c.loop-place.place in
    let (r, at) = item_at j.records k (omega arith) in
    let when : c.moment-when.result.0 ≡ r.tick = ap (λ (m : ℕ × Actor). m.0) (c.moment-when.ensures r at) in
    ends_before j c.args.tick k r c.requires.scheduled at (subst (λ (t : ℕ). c.args.tick < t) when c.if-when-tick.true) c.loop-place.invariant.past

pub follow_one-requires-clause-actor : goal.follow_one-requires-clause-actor
follow_one-requires-clause-actor c = λ r at. sym (ap (λ (m : ℕ × Actor). m.1) (c.moment-when.ensures r at))

pub loop-place-preserved : goal.loop-place-preserved
loop-place-preserved c =
    let j = c.args.journal.now in
    let k = c.loop-place.place in
    let (r, at) = item_at j.records k (omega arith) in
    let when : c.moment-when.result.0 ≡ r.tick = ap (λ (m : ℕ × Actor). m.0) (c.moment-when.ensures r at) in
    record {
      past = subst (AreUpTo c.args.tick) (sym (run_then j k r at))
          (subst (λ (t : ℕ). t ≤ c.args.tick) when c.if-when-tick.false, c.loop-place.invariant.past);
      core = c.in_ok-follow_one.ensures;
    }

pub returns-clause-end : goal.returns-clause-end
returns-clause-end c =
    let j = c.args.journal.now in
    let same : c.len.result ≡ c.loop-place.place = omega arith in
    subst (IsEndOf j c.args.tick) (sym same) (ends_last j c.args.tick c.loop-place.place (omega arith) c.loop-place.invariant.past)
