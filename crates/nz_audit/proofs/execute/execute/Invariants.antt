-- What the loops of the function of this folder keep.
use Rattle.std.proofs.Common.{◌≡◌, take}
use Rattle.nz_store.specs.Sequence.{store_after}
use Rattle.nz_machine.specs.rules.Replicas.{commands}
use Rattle.nz_machine.specs.journals.Journals.{executed_entries}
use Rattle.nz_audit.proofs.execute.execute.Given as goal

abbrev pub invariant-loop-place : goal.invariant-loop-place
invariant-loop-place l = record {
  store : l.store ≡ store_after (commands (take l.place l.log.entries));
  history : l.history ≡ executed_entries (take l.place l.log.entries);
}
