-- What the function of this folder owes, proved.
use Rattle.std.proofs.Common.{◌≡◌, ◌≤◌, length, take}
use Rattle.nz_base.specs.Log.{keys_of}
use Rattle.nz_log.proofs.log.HashedLog.common_prefix.Given as goal

abbrev pub invariant-loop-place : goal.invariant-loop-place
invariant-loop-place l = record {
  within : l.place ≤ length l.self-inside.entries;
  same : keys_of (take l.place l.self-inside.entries) ≡ keys_of (take l.place l.list);
}
