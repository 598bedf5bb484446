-- What the function of this folder owes, proved.
use Rattle.std.proofs.Common.{List, ℕ, take, sym, ap, ◌∙◌}
use Rattle.nz_base.specs.declared.key.Entry.{Entry}
use Rattle.nz_store.specs.Entries.{Entries}
use Rattle.nz_store.specs.Sequence.{store_after, apply_bytes}
use Rattle.nz_machine.specs.rules.Replicas.{commands}
use Rattle.nz_machine.specs.journals.Journals.{executed_entries}
use Rattle.nz_machine.proofs.lists.ListParts.{take_next}
use Rattle.nz_machine.proofs.facts.Stores.{no_store, store_pushed}
use Rattle.nz_audit.proofs.ExecutedEntries.{executed_more}
use Rattle.nz_audit.proofs.execute.execute.Goals as goal

pub loop-place-init : goal.loop-place-init
loop-place-init c = record { store = c.new-store.ensures ∙ sym no_store; history = c.new-history.ensures }

pub loop-place-preserved : goal.loop-place-preserved
loop-place-preserved c =
    let e = c.get-entry.result.now in
    let es = take c.loop-place.place c.args.log.now.entries in
    let next = take_next c.args.log.now.entries c.loop-place.place e c.get-entry.ensures in
    let bytes = c.as_slice.ensures in
    let answer =
    c.in-Ok.ensures.answer ∙ ap (λ (b : List ℕ). (apply_bytes c.loop-place.store b).1) bytes
    ∙ ap (λ (s : Entries). (apply_bytes s e.command).1) c.loop-place.invariant.store in
    record {
      store =
          c.in-Ok.ensures.store ∙ ap (λ (b : List ℕ). (apply_bytes c.loop-place.store b).0) bytes
          ∙ ap (λ (s : Entries). (apply_bytes s e.command).0) c.loop-place.invariant.store
          ∙ sym (store_pushed es e) ∙ ap (λ (l : List Entry). store_after (commands l)) (sym next);
      history =
          c.in_ok-push.ensures.ok ∙ executed_more es e c.loop-place.history _ c.loop-place.invariant.history c.id.ensures
          c.in_ok-copy.ensures answer ∙ ap executed_entries (sym next);
    }
