-- What the loops of the function of this folder keep.
use Rattle.std.proofs.Common.{◌≡◌, take}
use Rattle.nz_machine.specs.rules.LogMods.{missing_ids}
use Rattle.nz_machine.proofs.state.ReplicaState.missing.Given as goal

abbrev pub invariant-loop-key : goal.invariant-loop-key
invariant-loop-key l = l.ids ≡ missing_ids l.self.state (take l.key-index l.keys)
