-- What the function of this folder owes, proved.
use Rattle.std.proofs.Common.{◌≡◌, true, false, sym, ◌∙◌}
use Rattle.nz_msg.specs.Fields.{id}
use Rattle.nz_msg.proofs.Valid.{fits_next, fits_at}
use Rattle.nz_msg.proofs.validity.are_all_ids.Goals as goal

pub returns-then-not-is_id : goal.returns-then-not-is_id
returns-then-not-is_id c = (
  λ h. absurd cc,
  λ h.
      let clash : true ≡ false =
      sym (c.is_id.ensures.1 (fits_at (λ _. id) c.args.list.now c.loop-place.place _ c.loop-place-test.true h)) ∙ c.if-not-is_id.true in
      absurd cc,
)

pub loop-place-preserved : goal.loop-place-preserved
loop-place-preserved c =
    fits_next (λ _. id) c.args.list.now c.loop-place.place _ c.loop-place-test.true c.loop-place.invariant (c.is_id.ensures.0 c.if-not-is_id.false)
