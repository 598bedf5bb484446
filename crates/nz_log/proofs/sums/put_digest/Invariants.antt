-- What the function of this folder owes, proved.
use Rattle.std.proofs.Common.{◌≡◌, ◌+◌, ◌≤◌, length}
use Rattle.std.specs.Vec.{vec_capacity}
use Rattle.nz_log.proofs.Putting.{IsFolding}
use Rattle.nz_log.proofs.sums.put_digest.Given as goal

abbrev pub invariant-loop-from : goal.invariant-loop-from
invariant-loop-from l = record {
  down : l.kept ≤ l.from;
  long : length l.digests.items + 1 ≡ length l.entries;
  room : length l.entries ≤ vec_capacity l.digests;
  folding : IsFolding l.entries l.place l.key l.from l.kept l.digests.items l.before l.sum;
}
