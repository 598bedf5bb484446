-- What the function of this folder owes, proved.
use Rattle.std.proofs.Common.{◌≡◌, ℕ, List, [], ◌∷◌, ◌++◌, sym, ap, ◌∙◌}
use Rattle.nz_base.specs.declared.key.Entry.{Entry}
use Rattle.nz_store.specs.Entries.{Entries}
use Rattle.nz_store.specs.Sequence.{apply_bytes, store_after}
use Rattle.nz_log.specs.Synced.{Log}
use Rattle.nz_machine.specs.rules.Replicas.{commands}
use Rattle.nz_machine.proofs.facts.Stores.{store_pushed}
use Rattle.nz_machine.proofs.buffers.take_in.Goals as goal

pub returns-clause-store : goal.returns-clause-store
returns-clause-store c leads =
    let log = c.args.log.now.entries in
    let entry : Entry = c.args.entry in
    let grown : c.sync_all.new.self.entries ≡ log ++ entry ∷ [] =
    ap (λ (l : Log). l.entries) c.sync_all.ensures ∙ ap (λ (l : Log). l.entries) c.in_ok-append.ensures.ok in
    c.in-Ok.ensures.store
    ∙ ap (λ (x : List ℕ). (apply_bytes c.args.store.now x).0) c.as_slice.ensures
    ∙ ap (λ (s : Entries). (apply_bytes s entry.command).0) (c.requires.store leads)
    ∙ sym (store_pushed log entry)
    ∙ sym (ap (λ (l : List Entry). store_after (commands l)) grown)
