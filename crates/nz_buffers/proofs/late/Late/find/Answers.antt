-- What the function of this folder owes, proved.
use Rattle.std.proofs.Common.{List, ap, ◌∙◌}
use Rattle.nz_base.specs.declared.key.Entry.{Entry}
use Rattle.nz_base.specs.Key.{id_eq}
use Rattle.nz_buffers.specs.Buffers.{find_id}
use Rattle.nz_buffers.proofs.Removing.{found_held}
use Rattle.nz_buffers.proofs.Keeping.{lookup_is, ids_agree}
use Rattle.nz_buffers.proofs.late.Late.find.Goals as goal

pub returns : goal.returns
returns c =
    let es = c.self.inside.entries.entries in
    let is =
    c.get.ensures.value ∙ lookup_is (id_eq c.args.id) c.args.id es (ids_agree c.args.id es c.self.invariant.at)
    ∙ ap (λ (xs : List Entry). find_id xs c.args.id) c.self.view_is in
    record { value = is; held = found_held c.get.result c.args.self.now c.args.id is }
