-- What the function of this folder owes, proved.
use Rattle.std.proofs.Common.{◌-◌, ◌<◌, ◌≤◌, length, ◌∙◌, arith}
use Rattle.nz_check.proofs.FirstPlaces.{placed_before, placed_all}
use Rattle.nz_check.proofs.places.places_of.Goals as goal

pub loop-place-preserved : goal.loop-place-preserved
loop-place-preserved c = λ i.
    let H = c.args.history.now in
    let more : 0 < c.loop-place.place = c.loop-place-test.true in
    let most : c.loop-place.place ≤ length H = c.loop-place.auto.place in
    c.in_ok-insert.ensures.updates.0 i
    ∙ placed_before H (c.loop-place.place - 1) c.loop-place.place i c.index-history-place.result _ (omega (arith, more)) most
    (c.loop-place.invariant i)

pub returns : goal.returns
returns c = λ i. c.loop-place.invariant i ∙ placed_all c.args.history.now c.loop-place.place i c.loop-place-test.false
