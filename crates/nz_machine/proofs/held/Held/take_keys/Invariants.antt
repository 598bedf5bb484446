-- What the loops of the function of this folder keep.
use Rattle.std.proofs.Common.{◌≡◌, drop}
use Rattle.nz_machine.specs.rules.State.{ReplicaData}
use Rattle.nz_machine.specs.rules.Facts.{AreApart}
use Rattle.nz_machine.specs.rules.LogMods.{sync_keys}
use Rattle.nz_machine.specs.rules.Taking.{with_held}
use Rattle.nz_machine.proofs.held.Held.take_keys.Given as goal

abbrev pub invariant-loop-place : goal.invariant-loop-place
invariant-loop-place l = record {
  apart : AreApart l.self.log l.self.early l.self.late;
  taken : (s : ReplicaData)
      → sync_keys (with_held s l.initial.self) l.keys
      ≡ sync_keys (with_held s l.self) (drop l.place l.keys);
}
