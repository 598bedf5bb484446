-- What the function of this folder owes, proved.
use Rattle.std.proofs.Common.{rules, ◌≡◌, ◌∙◌, ℕ, ◌+◌, None, ap, get_or, arith}
use Rattle.std.specs.Prelude.{slice_set}
use Rattle.std.proofs.lemmas.List.{get_or_default}
use Rattle.std.proofs.lemmas.List.Edits.{map_over_more}
use Rattle.nz_story.specs.declared.deliveries.Delivery.{Delivery}
use Rattle.nz_story.specs.Passes.{deliveries_in, put_off}
use Rattle.nz_story.proofs.Passing.{held_is, over_all}
use Rattle.nz_story.proofs.deliveries.hold.Goals as goal

pub loop-place-preserved : goal.loop-place-preserved
loop-place-preserved c =
    let ds = c.loop-place.deliveries in
    let i = c.loop-place.place in
    let none : Delivery = record { tick = 0; kept = None } in
    let x = get_or ds i none in
    let later : c.in-Some.tick ≡ x.tick + c.args.by = search rules in
    ap (λ (n : ℕ). let y : Delivery = record { tick = n; kept = x.kept } in slice_set ds i y) later
    ∙ map_over_more (put_off c.args.by) c.args.deliveries.now ds i x c.loop-place-test.true c.loop-place.invariant
    (get_or_default ds i none x (omega (arith, c.loop-place.auto.deliveries, c.loop-place-test.true)))

pub returns : goal.returns
returns c =
    ap deliveries_in (over_all (put_off c.args.by) c.args.deliveries.now c.loop-place.deliveries c.loop-place.place
    c.loop-place.invariant c.loop-place-test.false) ∙ held_is c.args.by c.args.deliveries.now
