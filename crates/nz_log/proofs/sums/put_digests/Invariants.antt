-- What the loops of the function of this folder keep.
use Rattle.std.proofs.Common.{◌≤◌, length, take}
use Rattle.std.specs.Vec.{vec_capacity}
use Rattle.nz_log.specs.Keeping.{IsSummed}
use Rattle.nz_log.proofs.sums.put_digests.Given as goal

abbrev pub invariant-loop-place : goal.invariant-loop-place
invariant-loop-place l = record {
  room : length l.entries ≤ vec_capacity l.digests;
  summed : IsSummed (take l.place l.entries) l.digests.items;
}
