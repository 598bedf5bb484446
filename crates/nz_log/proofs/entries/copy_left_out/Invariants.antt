-- What the loops of the function of this folder keep.
use Rattle.std.proofs.Common.{◌≡◌, take}
use Rattle.nz_log.specs.Synced.{left_out}
use Rattle.nz_log.proofs.entries.copy_left_out.Given as goal

abbrev pub invariant-loop-entry : goal.invariant-loop-entry
invariant-loop-entry l = l.list ≡ left_out (take l.entry-index l.entries) l.kept
