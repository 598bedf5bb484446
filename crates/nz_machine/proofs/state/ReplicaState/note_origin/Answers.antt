-- What the function of this folder owes, proved.
use Rattle.std.proofs.Common.{arith}
use Rattle.nz_machine.proofs.facts.StateInvariant.{kept_origin}
use Rattle.nz_machine.proofs.state.ReplicaState.note_origin.Goals as goal

pub invariant_of-self-2 : goal.invariant_of-self-2
invariant_of-self-2 c = kept_origin _ _ _ _ _ _ _ c.self.invariant (record { proxy = c.requires; delay = omega arith }) c.in_ok-insert.ensures.entries
