-- What the function of this folder owes, proved.
use Rattle.std.proofs.Common.{sym, subst, ◌∙◌}
use Rattle.std.proofs.lemmas.List.{take_all}
use Rattle.nz_base.specs.Log.{IsLog}
use Rattle.nz_log.proofs.Calling.{log_more, log_stops, log_passes}
use Rattle.nz_log.proofs.calls.is_log.Goals as goal

pub returns-then-not-may_follow : goal.returns-then-not-may_follow
returns-then-not-may_follow c =
    sym (log_stops c.args.list.now c.loop-place.place c.index-list-place.result c.loop-place-test.true
    c.index-list-place.is (sym c.may_follow.ensures ∙ c.if-not-may_follow.true))

pub loop-place-preserved : goal.loop-place-preserved
loop-place-preserved c =
    log_more c.args.list.now c.loop-place.place c.index-list-place.result c.loop-place-test.true c.index-list-place.is
    c.loop-place.invariant (sym c.may_follow.ensures ∙ c.if-not-may_follow.false)

pub returns : goal.returns
returns c = sym (log_passes c.args.list.now (subst IsLog (take_all c.loop-place.place c.args.list.now c.loop-place-test.false) c.loop-place.invariant))
