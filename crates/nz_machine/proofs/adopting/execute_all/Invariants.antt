-- What the loops of the function of this folder keep.
use Rattle.std.proofs.Common.{◌≡◌, take}
use Rattle.nz_store.specs.Sequence.{store_after, replies}
use Rattle.nz_machine.specs.rules.Replicas.{commands}
use Rattle.nz_machine.proofs.adopting.execute_all.Given as goal

abbrev pub invariant-loop-entry : goal.invariant-loop-entry
invariant-loop-entry l = record {
  store : l.store ≡ store_after (commands (take l.entry-index l.list));
  answers : l.answers.items ≡ replies (commands (take l.entry-index l.list));
}
