-- What the function of this folder owes, proved.
use Rattle.std.proofs.Common.{◌≡◌, ◌∙◌, ◌++◌, [], List, Some, length, sym, ap, subst}
use Rattle.std.proofs.lemmas.Bool.{eqb-true}
use Rattle.std.proofs.lemmas.List.{nil_from_length}
use Rattle.std.specs.Prelude.{OnOk}
use Rattle.nz_base.specs.declared.scenario.Fault.{Fault}
use Rattle.nz_fabric.specs.schedule.Calendars.{lines_at, next_number}
use Rattle.nz_fabric.specs.schedule.Numbered.{items_under}
use Rattle.nz_fabric.specs.schedule.Posting.{arrivals_by, ArePlaced}
use Rattle.nz_fabric.proofs.schedule.calendar.place_on_course.Goals as goal

pub returns-then-is_empty-2-clause-ok : goal.returns-then-is_empty-2-clause-ok
returns-then-is_empty-2-clause-ok c = λ earlier is.
    let t = c.args.traffic.now in
    let number = next_number (Some t) in
    let blocks : t.blocks ≡ [] =
    sym c.as_slice-blocks.ensures ∙ nil_from_length c.as_slice-blocks.result.now
    (eqb-true (length c.as_slice-blocks.result.now) 0 (sym c.is_empty.ensures ∙ c.if-is_empty.true)) in
    let named : items_under t.named number ≡ [] =
    ap (items_under t.named) (sym c.saturating_add-number.ensures) ∙ sym c.under-named.ensures
    ∙ nil_from_length c.under-named.result.now
    (eqb-true (length c.under-named.result.now) 0 (sym c.is_empty-then-is_empty.ensures ∙ c.if-is_empty-2.true)) in
    let none : [] ≡ lines_at number t =
    sym (ap (λ (xs : List Fault). xs ++ items_under t.named number) blocks ∙ named) in
    subst (λ (lines : List Fault). OnOk c.place_whole.result
    (ArePlaced c.args.days.now.items (arrivals_by c.args.last c.args.tick earlier c.args.parcel.now lines) c.place_whole.new.days.items))
    none (c.place_whole.ensures.ok earlier)
