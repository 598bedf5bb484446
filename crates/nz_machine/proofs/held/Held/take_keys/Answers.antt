-- What the function of this folder owes, proved.
use Rattle.std.proofs.Common.{◌+◌, drop, ◌∙◌}
use Rattle.nz_machine.specs.rules.Taking.{with_held}
use Rattle.nz_machine.proofs.facts.Takes.{took_missing, took_synced, took_refused, took_all}
use Rattle.nz_machine.proofs.held.Held.take_keys.Goals as goal

pub returns-in-Missing-clause-taken : goal.returns-in-Missing-clause-taken
returns-in-Missing-clause-taken c =
    λ s. c.loop-place.invariant.taken s
    ∙ took_missing (with_held s c.loop-place.self) _ c.args.keys.now
    c.loop-place.place _ _ c.loop-place-test.true (c.in_ok-take_key.ensures.taken s (drop (c.loop-place.place + 1) c.args.keys.now)) c.in-Missing.is

pub returns-in-Refused-clause-taken : goal.returns-in-Refused-clause-taken
returns-in-Refused-clause-taken c =
    λ s. c.loop-place.invariant.taken s
    ∙ took_refused (with_held s c.loop-place.self) _ c.args.keys.now
    c.loop-place.place _ _ c.loop-place-test.true (c.in_ok-take_key.ensures.taken s (drop (c.loop-place.place + 1) c.args.keys.now)) c.in-Refused.is

pub loop-place-preserved : goal.loop-place-preserved
loop-place-preserved c =
    record {
      apart = c.in_ok-take_key.ensures.apart;
      taken = λ s. c.loop-place.invariant.taken s
          ∙ took_synced (with_held s c.loop-place.self) _ c.args.keys.now
          c.loop-place.place _ _ c.loop-place-test.true
          (c.in_ok-take_key.ensures.taken s (drop (c.loop-place.place + 1) c.args.keys.now)) c.in-Synced.is;
    }

pub returns-clause-taken : goal.returns-clause-taken
returns-clause-taken c =
    λ s. c.loop-place.invariant.taken s
    ∙ took_all (with_held s c.loop-place.self) c.args.keys.now c.loop-place.place c.loop-place-test.false
