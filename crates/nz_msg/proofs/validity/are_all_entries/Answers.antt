-- What the function of this folder owes, proved.
use Rattle.std.proofs.Common.{◌≡◌, true, false, sym, ◌∙◌, take, subst}
use Rattle.nz_base.specs.declared.key.Entry.{Entry}
use Rattle.nz_msg.specs.Fields.{next_entry}
use Rattle.nz_msg.proofs.Valid.{fits_next, fits_at}
use Rattle.nz_msg.proofs.validity.are_all_entries.Goals as goal

pub returns-then-not-is_next_entry : goal.returns-then-not-is_next_entry
returns-then-not-is_next_entry c = (
  λ h. absurd cc,
  λ h.
      let clash : true ≡ false =
      sym (c.is_next_entry.ensures.1
      (subst (λ (e : Entry). (next_entry (take c.loop-place.place c.args.list.now)).fits e)
      (sym c.index-list-place.is) (fits_at next_entry c.args.list.now c.loop-place.place c.index-list-place.result
      c.loop-place-test.true h))) ∙ c.if-not-is_next_entry.true in
      absurd cc,
)

pub loop-place-preserved : goal.loop-place-preserved
loop-place-preserved c =
    fits_next next_entry c.args.list.now c.loop-place.place c.index-list-place.result c.loop-place-test.true
    c.loop-place.invariant (subst (λ (e : Entry). (next_entry (take c.loop-place.place c.args.list.now)).fits e)
    c.index-list-place.is (c.is_next_entry.ensures.0 c.if-not-is_next_entry.false))
