-- What the function of this folder owes, proved.
use Rattle.std.proofs.Common.{◌≡◌, length, eq-eqb, sym, subst}
use Rattle.nz_base.specs.Cluster.{replica_count}
use Rattle.nz_machine.specs.rules.Facts.{ReplicaModel}
use Rattle.nz_machine.proofs.facts.SentFields.{vector_counts}
use Rattle.nz_machine.proofs.facts.SyncInvariant.{kept_vector}
use Rattle.nz_machine.proofs.state.ReplicaState.merge_unless_stray.Goals as goal

pub invariant_of-self : goal.invariant_of-self
invariant_of-self c =
    let long = subst (λ (v : ReplicaModel). length c.args.vector.now ≡ replica_count v.f) (sym c.self.view_is) c.requires.size in
    let counters = vector_counts _ c.args.vector.now c.vector_fits.ensures (eq-eqb (length c.args.vector.now) _ long) in
    kept_vector _ _ _ _ c.args.vector.now _ c.self.invariant counters c.merge.ensures
