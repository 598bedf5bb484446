-- What the loops of the function of this folder keep.
use Rattle.std.proofs.Common.{◌≡◌, take}
use Rattle.std.specs.List.{filter}
use Rattle.nz_log.specs.Synced.{is_displaced}
use Rattle.nz_log.proofs.entries.copy_displaced.Given as goal

abbrev pub invariant-loop-entry : goal.invariant-loop-entry
invariant-loop-entry l = l.list ≡ filter (is_displaced l.key) (take l.entry-index l.entries)
