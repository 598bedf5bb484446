-- What the function of this folder owes, proved.
use Rattle.std.proofs.Common.{List, None, ap, subst, ◌∙◌, if◌then◌else◌}
use Rattle.std.specs.Map.{lookup}
use Rattle.nz_base.specs.declared.key.Id.{Id}
use Rattle.nz_base.specs.declared.key.Key.{Key}
use Rattle.nz_base.specs.declared.key.Entry.{Entry}
use Rattle.nz_base.specs.Key.{id_eq}
use Rattle.nz_buffers.specs.Keeping.{IsKeptBuffer}
use Rattle.nz_buffers.proofs.Keeping.{kept_popped}
use Rattle.nz_buffers.proofs.early.Early.take_first.Goals as goal

pub invariant_of-self-2 : goal.invariant_of-self-2
invariant_of-self-2 c =
    let keys = c.self.inside.keys.entries in
    kept_popped (c.in_ok-key.key, c.in_ok-key.entry) c.pop_first.new.self.entries keys c.forget.new.keys.entries
    (subst (λ (es : List (Key × Entry)). IsKeptBuffer es keys) c.in_ok-key.ensures.removal c.self.invariant)
    (λ i. c.forget.ensures i ∙ ap (λ (j : Id). if id_eq j i then None else lookup (id_eq i) keys) c.id.ensures)
