-- What the function of this folder owes, proved.
use Rattle.std.proofs.Common.{◌≡◌, ◌∙◌, [], ap, arith, length, subst, sym}
use Rattle.std.specs.Prelude.{Vec}
use Rattle.std.specs.Global.{Global}
use Rattle.std.proofs.lemmas.List.{drop_all}
use Rattle.nz_machine.specs.declared.journal.Item.{Item}
use Rattle.nz_fabric.specs.schedule.Agendas.{Progress}
use Rattle.nz_fabric.proofs.schedule.agenda.Agenda.take_memory.Goals as goal

pub invariant_of-self : goal.invariant_of-self
invariant_of-self c =
    let f = c.self.inside in
    let whole = f.whole.value.items in
    let none : c.replace.new.dest.items ≡ [] = ap (λ (v : Vec Item Global). v.items) c.replace.ensures.after ∙ c.new.ensures.items in
    let all : f.next ≡ length whole = subst (λ (p : Progress). p.next ≡ length p.items) (sym c.self.view_is) c.requires in
    let empty = ap length none in (
      drop_all f.next c.replace.new.dest.items (omega (arith, empty)) ∙ sym (drop_all f.next whole (omega (arith, all))),
      omega (arith, empty, all),
      c.self.invariant.2,
      c.self.invariant.3,
    )
