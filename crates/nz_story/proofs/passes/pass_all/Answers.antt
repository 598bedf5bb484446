-- What the function of this folder owes, proved.
use Rattle.std.proofs.Common.{◌∙◌, List, ◌∷◌, [], ◌++◌, refl, ap, take_all}
use Rattle.std.proofs.lemmas.List.{get_or_default}
use Rattle.nz_base.specs.declared.scenario.Fault.{Fault}
use Rattle.nz_machine.specs.runs.Schedule.{after_faults}
use Rattle.nz_story.specs.Passes.{deliveries_in}
use Rattle.nz_story.proofs.Passing.{one_line_more, all_counted}
use Rattle.nz_story.proofs.passes.pass_all.Goals as goal

pub loop-place-init : goal.loop-place-init
loop-place-init c = λ earlier is. record { counts = is; passed = refl }

pub loop-place-preserved : goal.loop-place-preserved
loop-place-preserved c = λ earlier is.
    let h = c.loop-place.invariant earlier is in
    let t =
    one_line_more c.args.tick earlier c.args.parcel.now c.args.faults.now c.loop-place.place _ c.loop-place.counts c.pass.new.count
    (deliveries_in c.args.deliveries.now.items) (deliveries_in c.loop-place.deliveries.items) (deliveries_in c.pass.new.deliveries.items)
    c.loop-place-test.true (get_or_default c.args.faults.now c.loop-place.place _ _ c.loop-place-test.true)
    h.counts h.passed (c.in_ok-pass.ensures.counted earlier) (c.in_ok-pass.ensures.passed earlier) in
    record { counts = t.0; passed = t.1 }

pub returns-clause-counted : goal.returns-clause-counted
returns-clause-counted c = λ earlier is.
    all_counted c.args.faults.now c.loop-place.place c.loop-place.counts earlier (earlier ++ c.args.parcel.now ∷ [])
    (c.loop-place.invariant earlier is).counts c.loop-place-test.false

pub returns-clause-passed : goal.returns-clause-passed
returns-clause-passed c = λ earlier is.
    (c.loop-place.invariant earlier is).passed
    ∙ ap (λ (lines : List Fault). after_faults c.args.tick earlier c.args.parcel.now lines (deliveries_in c.args.deliveries.now.items))
    (take_all c.loop-place.place c.args.faults.now c.loop-place-test.false)
