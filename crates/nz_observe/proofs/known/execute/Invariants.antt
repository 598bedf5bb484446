-- What the loops of the function of this folder keep.
use Rattle.std.proofs.Common.{◌≡◌, ◌≤◌, take}
use Rattle.nz_store.specs.Sequence.{store_after}
use Rattle.nz_machine.specs.rules.Replicas.{commands}
use Rattle.nz_observe.proofs.known.execute.Given as goal

abbrev pub invariant-loop-place : goal.invariant-loop-place
invariant-loop-place l =
    l.from ≤ l.to → l.fn.store ≡ store_after (commands (take l.from l.log.entries)) → l.store ≡ store_after (commands (take l.place l.log.entries))
