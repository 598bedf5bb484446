-- What the function of this folder owes, proved.
use Rattle.std.proofs.Common.{◌≡◌, ◌∙◌, ap, arith, get_or, length, subst, sym}
use Rattle.std.specs.Prelude.{slice_get}
use Rattle.nz_machine.specs.declared.journal.Item.{Item}
use Rattle.nz_fabric.specs.schedule.Agendas.{Progress}
use Rattle.nz_fabric.proofs.calendars.Agendas.{left_read}
use Rattle.nz_fabric.proofs.schedule.agenda.Agenda.take.Goals as goal

pub returns-clause-item : goal.returns-clause-item
returns-clause-item c =
    let f = c.self.inside in
    let next = ap (λ (p : Progress). p.next) c.self.view_is in
    let long = ap (λ (p : Progress). length p.items) c.self.view_is in
    let at = subst (λ (x : Item). x ≡ get_or f.items.items f.next x) (sym c.replace-item.ensures.value) c.index_mut.ensures.value in
    ap (λ (p : Progress). slice_get p.items p.next) (sym c.self.view_is)
    ∙ left_read f.items.items f.whole.value.items f.next c.replace-item.result c.self.invariant.0 (omega (arith, c.requires, next, long)) at
