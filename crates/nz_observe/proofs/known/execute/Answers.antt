-- What the function of this folder owes, proved.
use Rattle.std.proofs.Common.{List, ℕ, take, sym, ap, ◌∙◌}
use Rattle.nz_base.specs.declared.key.Entry.{Entry}
use Rattle.nz_store.specs.Entries.{Entries}
use Rattle.nz_store.specs.Sequence.{store_after, apply_bytes}
use Rattle.nz_machine.specs.rules.Replicas.{commands}
use Rattle.nz_machine.proofs.lists.ListParts.{take_next}
use Rattle.nz_machine.proofs.facts.Stores.{store_pushed}
use Rattle.nz_observe.proofs.known.execute.Goals as goal

pub loop-place-preserved : goal.loop-place-preserved
loop-place-preserved c = λ order first.
    let e = c.get.result.now in
    let es = c.args.log.now.entries in
    let old = take c.loop-place.place es in
    c.in-Ok.ensures.store ∙ ap (λ (b : List ℕ). (apply_bytes c.loop-place.store b).0) c.as_slice.ensures
    ∙ ap (λ (s : Entries). (apply_bytes s e.command).0) (c.loop-place.invariant order first)
    ∙ sym (store_pushed old e) ∙ ap (λ (l : List Entry). store_after (commands l)) (sym (take_next es c.loop-place.place e c.get.ensures))
