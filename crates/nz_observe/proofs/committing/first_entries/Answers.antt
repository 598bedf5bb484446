-- What the function of this folder owes, proved.
use Rattle.std.proofs.Common.{List, [], ◌∷◌, ◌++◌, take, sym, ap, ◌∙◌}
use Rattle.nz_base.specs.declared.key.Entry.{Entry}
use Rattle.nz_machine.proofs.lists.ListParts.{take_next}
use Rattle.nz_observe.proofs.committing.first_entries.Goals as goal

pub loop-place-preserved : goal.loop-place-preserved
loop-place-preserved c =
    let es = c.args.log.now.entries in
    let k = c.loop-place.place in
    c.in_ok-push.ensures.ok ∙ ap (λ (l : List Entry). l ++ c.in_ok-copy.field-0 ∷ []) c.loop-place.invariant
    ∙ ap (λ (e : Entry). take k es ++ e ∷ []) c.in_ok-copy.ensures ∙ sym (take_next es k c.get.result.now c.get.ensures)
