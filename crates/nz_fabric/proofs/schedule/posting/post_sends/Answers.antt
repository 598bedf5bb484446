-- What the function of this folder owes, proved.
use Rattle.std.proofs.Common.{◌++◌, List, map, take, subst, take_all}
use Rattle.nz_machine.specs.declared.event.Parcel.{Parcel}
use Rattle.nz_machine.specs.runs.Schedule.{posted_in}
use Rattle.nz_fabric.specs.schedule.Calendars.{Represents}
use Rattle.nz_fabric.proofs.calendars.Sending.{one_sent, some_sent, on_err}
use Rattle.nz_fabric.proofs.schedule.posting.post_sends.Goals as goal

pub loop-parcel-preserved : goal.loop-parcel-preserved
loop-parcel-preserved c = λ L now h.
    let s = c.args.scenario.now in
    one_sent s L now c.post.new.self c.args.tick c.args.sends.now c.loop-parcel.parcel-index c.parcel-item.result c.loop-parcel-test.true c.parcel-item.is
    (c.in_ok-post.ensures.ok (L ++ map (posted_in c.args.tick) (take c.loop-parcel.parcel-index c.args.sends.now)) now (c.loop-parcel.invariant L now h))

pub returns-clause-ok : goal.returns-clause-ok
returns-clause-ok c = λ L now h.
    subst (λ (ps : List Parcel). Represents c.args.scenario.now
    (L ++ map (posted_in c.args.tick) ps) now c.loop-parcel.calendar)
    (take_all c.loop-parcel.parcel-index c.args.sends.now c.loop-parcel-test.false) (c.loop-parcel.invariant L now h)

pub returns-then-parcels-eq18446744073709551615-clause-err : goal.returns-then-parcels-eq18446744073709551615-clause-err
returns-then-parcels-eq18446744073709551615-clause-err c =
    λ L now h. some_sent c.args.scenario.now L now c.loop-parcel.calendar c.args.tick c.args.sends.now
    c.loop-parcel.parcel-index (c.loop-parcel.invariant L now h)

pub returns-in_err-post-clause-err : goal.returns-in_err-post-clause-err
returns-in_err-post-clause-err c = λ L now h.
    let L' = L ++ map (posted_in c.args.tick) (take c.loop-parcel.parcel-index c.args.sends.now) in
    on_err c.from_residual.result _
    (some_sent c.args.scenario.now L now c.post.new.self c.args.tick c.args.sends.now c.loop-parcel.parcel-index
    (c.in_err-post.ensures.err c.args.scenario.now L' now (c.loop-parcel.invariant L now h)))
