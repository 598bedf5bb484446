-- What the function of this folder owes, proved.
use Rattle.std.proofs.Common.{List, ap, ◌∙◌}
use Rattle.nz_base.specs.declared.key.Entry.{Entry}
use Rattle.nz_buffers.specs.Buffers.{find_id}
use Rattle.nz_buffers.proofs.Removing.{found_held}
use Rattle.nz_buffers.proofs.list_early.ListEarlyEarlyRep.find.Goals as goal

pub returns-clause-held : goal.returns-clause-held
returns-clause-held c =
    found_held c.find.result c.args.self.now c.args.id
    (c.find.ensures ∙ ap (λ (xs : List Entry). find_id xs c.args.id) (c.deref.ensures.value ∙ c.self.view_is))
