-- What the loops of the function of this folder keep.
use Rattle.std.proofs.Common.{◌≡◌, ◌++◌, not, ◌==◌, map}
use Rattle.std.specs.List.{filter}
use Rattle.nz_base.specs.declared.actor.Actor.TheVariants.{Replica}
use Rattle.nz_machine.specs.rules.Replicas.{numbers_below}
use Rattle.nz_machine.specs.rules.Step.{parcel}
use Rattle.nz_machine.proofs.state.ReplicaState.send_written_to_others.Given as goal

abbrev pub invariant-loop-replica : goal.invariant-loop-replica
invariant-loop-replica l =
    l.sends ≡ l.initial.sends ++ map (parcel (Replica l.self.me))
    (map (λ r. (Replica r, l.message)) (filter (λ r. not (r == l.self.me)) (numbers_below l.replica)))
