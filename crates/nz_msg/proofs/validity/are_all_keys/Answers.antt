-- What the function of this folder owes, proved.
use Rattle.std.proofs.Common.{◌≡◌, true, false, sym, ◌∙◌}
use Rattle.nz_msg.specs.Fields.{next_key}
use Rattle.nz_msg.proofs.Valid.{fits_next, fits_at}
use Rattle.nz_msg.proofs.validity.are_all_keys.Goals as goal

pub returns-then-not-is_next_key : goal.returns-then-not-is_next_key
returns-then-not-is_next_key c = (
  λ h. absurd cc,
  λ h.
      let clash : true ≡ false =
      sym (c.is_next_key.ensures.1 (fits_at next_key c.args.list.now c.loop-place.place _ c.loop-place-test.true h)) ∙ c.if-not-is_next_key.true in
      absurd cc,
)

pub loop-place-preserved : goal.loop-place-preserved
loop-place-preserved c =
    fits_next next_key c.args.list.now c.loop-place.place _ c.loop-place-test.true c.loop-place.invariant
    (c.is_next_key.ensures.0 c.if-not-is_next_key.false)
