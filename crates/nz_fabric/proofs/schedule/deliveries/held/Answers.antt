-- What the function of this folder owes, proved.
use Rattle.std.proofs.Common.{◌≡◌, ◌∙◌, ℕ, ◌+◌, min, None, map, ap, get_or, arith}
use Rattle.std.specs.Prelude.{slice_set}
use Rattle.std.proofs.lemmas.List.{get_or_default}
use Rattle.std.proofs.lemmas.List.Edits.{map_over_more}
use Rattle.nz_fabric.specs.declared.schedule.deliveries.Delivery.{Delivery}
use Rattle.nz_fabric.specs.schedule.Posting.{last_delivery_tick, put_off}
use Rattle.nz_fabric.proofs.calendars.Numbering.{held_is, over_all}
use Rattle.nz_fabric.proofs.schedule.deliveries.held.Goals as goal

pub loop-place-preserved : goal.loop-place-preserved
loop-place-preserved c =
    let ds = c.loop-place.deliveries in
    let i = c.loop-place.place in
    let none : Delivery = record { tick = 0; kept = None } in
    let x = get_or ds i none in
    let later : c.saturating_add.result ≡ min (x.tick + c.args.by) last_delivery_tick = c.saturating_add.ensures in
    ap (λ (n : ℕ). let y : Delivery = record { tick = n; kept = x.kept } in slice_set ds i y) later
    ∙ map_over_more (put_off c.args.by) c.args.deliveries.now ds i x c.loop-place-test.true c.loop-place.invariant
    (get_or_default ds i none x (omega (arith, c.loop-place.auto.deliveries, c.loop-place-test.true)))

pub returns : goal.returns
returns c =
    λ ds e. over_all (put_off c.args.by) c.args.deliveries.now c.loop-place.deliveries c.loop-place.place
    c.loop-place.invariant c.loop-place-test.false ∙ ap (map (put_off c.args.by)) e ∙ held_is c.args.by ds
