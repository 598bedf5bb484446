-- What the function of this folder owes, proved.
use Rattle.std.proofs.Common.{List, sym, ap, subst, ◌∙◌}
use Rattle.std.specs.Map.{values_of}
use Rattle.nz_base.specs.declared.key.Entry.{Entry}
use Rattle.nz_base.specs.Key.{id_eq}
use Rattle.nz_buffers.specs.Buffers.{find_id, without}
use Rattle.nz_buffers.specs.Keeping.{AreByIds}
use Rattle.nz_buffers.proofs.Keeping.{lookup_is, removed_is, ids_agree, by_ids_removed, answer_held}
use Rattle.nz_buffers.proofs.late.Late.remove.Goals as goal

pub invariant_of-self : goal.invariant_of-self
invariant_of-self c = subst AreByIds (sym c.shift_remove.ensures.entries) (by_ids_removed c.self.inside.entries.entries c.args.id c.self.invariant)

pub returns : goal.returns
returns c =
    let es = c.self.inside.entries.entries in
    let i = c.args.id in
    let is =
    c.shift_remove.ensures.value ∙ lookup_is (id_eq i) i es (ids_agree i es c.self.invariant.at)
    ∙ ap (λ (xs : List Entry). find_id xs i) c.self.view_is in
    record {
      value = is;
      held = answer_held c.shift_remove.result c.args.self.now i is;
      rest =
          ap values_of c.shift_remove.ensures.entries
          ∙ removed_is (id_eq i) i es (ids_agree i es c.self.invariant.at) c.self.invariant.own ∙ ap (λ (xs : List Entry). without xs i) c.self.view_is;
    }
