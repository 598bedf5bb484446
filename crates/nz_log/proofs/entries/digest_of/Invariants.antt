-- What the loops of the function of this folder keep.
use Rattle.std.proofs.Common.{◌≡◌, take}
use Rattle.nz_log.specs.Places.{digest_of_log}
use Rattle.nz_log.proofs.entries.digest_of.Given as goal

abbrev pub invariant-loop-entry : goal.invariant-loop-entry
invariant-loop-entry l = l.digest ≡ digest_of_log (take l.entry-index l.entries)
