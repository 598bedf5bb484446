-- What the function of this folder owes, proved.
use Rattle.std.proofs.Common.{◌∙◌, ap, arith, length, sym}
use Rattle.std.specs.Prelude.{slice_get}
use Rattle.nz_fabric.specs.schedule.Agendas.{Progress}
use Rattle.nz_fabric.proofs.calendars.Agendas.{left_read}
use Rattle.nz_fabric.proofs.schedule.agenda.Agenda.peek.Goals as goal

pub returns : goal.returns
returns c =
    let f = c.self.inside in
    let next = ap (λ (p : Progress). p.next) c.self.view_is in
    let long = ap (λ (p : Progress). length p.items) c.self.view_is in
    ap (λ (p : Progress). slice_get p.items p.next) (sym c.self.view_is)
    ∙ left_read f.items.items f.whole.value.items f.next c.index.result.now c.self.invariant.0 (omega (arith, c.requires, next, long)) c.index.ensures
