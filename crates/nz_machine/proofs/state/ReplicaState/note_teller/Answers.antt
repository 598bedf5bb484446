-- What the function of this folder owes, proved.
use Rattle.std.proofs.Common.{◌≡◌, ◌<◌, length, max, ap, ◌∙◌, eq-eqb, sym, subst, arith, IsTrue}
use Rattle.std.proofs.lemmas.Bool.Decides.{nat_tests}
use Rattle.nz_base.specs.Cluster.{replica_count}
use Rattle.nz_base.specs.declared.actor.Actor.TheVariants.{Replica}
use Rattle.nz_machine.specs.rules.Facts.{ReplicaModel}
use Rattle.nz_machine.specs.rules.Step.{is_in_cluster}
use Rattle.nz_machine.proofs.facts.SentFields.{vector_counts}
use Rattle.nz_machine.proofs.facts.RejoinInvariant.{kept_teller}
use Rattle.nz_machine.proofs.state.ReplicaState.note_teller.Goals as goal

pub invariant_of-self-2 : goal.invariant_of-self-2
invariant_of-self-2 c =
    let long = subst (λ (v : ReplicaModel). length c.args.vector.now ≡ replica_count v.f) (sym c.self.view_is) c.requires.size in
    let from = subst (λ (v : ReplicaModel). IsTrue (is_in_cluster v.f (Replica c.args.sender))) (sym c.self.view_is) c.requires.member in
    let member : c.args.sender < replica_count c.self.inside.parts.cluster = grind (arith, nat_tests, from) in
    let counters = vector_counts _ c.args.vector.now c.vector_fits.ensures (eq-eqb (length c.args.vector.now) _ long) in
    let claim = c.max-self-inside.ensures ∙ ap (max c.self.inside.parts.rejoin.claim) c.get-told.ensures in
    kept_teller _ _ _ _ c.args.sender c.args.vector.now _ _ c.self.invariant member counters claim c.in_ok-note_teller.ensures.ok
