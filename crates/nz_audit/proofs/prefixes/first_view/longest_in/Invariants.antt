-- What the loops of the function of this folder keep.
use Rattle.std.proofs.Common.{◌≡◌, [], length, take}
use Rattle.nz_audit.specs.Prefixes.{longest_from, prefixes_in}
use Rattle.nz_audit.proofs.prefixes.first_view.longest_in.Given as goal

abbrev pub invariant-loop-next : goal.invariant-loop-next
invariant-loop-next l = l.longest ≡ length (longest_from [] (prefixes_in l.log.entries (take l.next-index l.answers)))
