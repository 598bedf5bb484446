-- What the loops of the function of this folder keep.
use Rattle.std.proofs.Common.{◌≡◌, ◌++◌, not, ◌==◌, map}
use Rattle.std.specs.List.{filter}
use Rattle.nz_base.specs.declared.actor.Actor.TheVariants.{Replica}
use Rattle.nz_machine.specs.rules.Replicas.{numbers_below}
use Rattle.nz_machine.specs.rules.LogMods.{log_mod_to}
use Rattle.nz_machine.specs.rules.Step.{parcel}
use Rattle.nz_sync.specs.Broadcasts.{IsWritten}
use Rattle.nz_sync.proofs.broadcast.send_to_others.Given as goal

abbrev pub invariant-loop-replica : goal.invariant-loop-replica
invariant-loop-replica l =
    record {
      sent : l.sends ≡ l.initial.sends ++ map (parcel (Replica l.state.me))
          (map (log_mod_to l.state.state) (filter (λ r. not (r == l.state.me)) (numbers_below l.replica)));
      written : IsWritten l.state.state l.written;
    }
