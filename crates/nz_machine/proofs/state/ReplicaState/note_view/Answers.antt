-- What the function of this folder owes, proved.
use Rattle.std.proofs.Common.{◌≡◌, ◌<◌, not, List, [], ◌∷◌, ◌++◌, length, ap, ◌∙◌, sym, subst, arith, IsTrue}
use Rattle.std.specs.Prelude.{◌==◌}
use Rattle.std.specs.List.{filter}
use Rattle.std.proofs.lemmas.Bool.Decides.{nat_tests}
use Rattle.nz_base.specs.Cluster.{replica_count}
use Rattle.nz_base.specs.declared.actor.Actor.TheVariants.{Replica}
use Rattle.nz_cv.specs.Vectors.{is_stray}
use Rattle.nz_machine.specs.declared.data.ToldView.{ToldView}
use Rattle.nz_machine.specs.rules.Facts.{ReplicaModel}
use Rattle.nz_machine.specs.rules.Step.{is_in_cluster}
use Rattle.nz_machine.proofs.facts.RejoinInvariant.{kept_tell}
use Rattle.nz_machine.proofs.state.ReplicaState.note_view.Goals as goal

pub invariant_of-self : goal.invariant_of-self
invariant_of-self c =
    let b = c.args.body.now in
    let told : ToldView = record { sender = c.args.sender; view = b.view; vector = b.vector } in
    let known = c.self.inside.parts.vector in
    let long = subst (λ (v : ReplicaModel). length b.vector ≡ replica_count v.f) (sym c.self.view_is) c.requires.from.size in
    let from = subst (λ (v : ReplicaModel). IsTrue (is_in_cluster v.f (Replica c.args.sender))) (sym c.self.view_is) c.requires.from.member in
    let member : c.args.sender < replica_count c.self.inside.parts.cluster = grind (arith, nat_tests, from) in
    let is =
    c.in_ok-self-inside.ensures ∙ ap
    (λ (ts : List ToldView). filter (λ t. not (is_stray t.vector t.sender known))
    (filter (λ t. not (t.sender == c.args.sender)) ts ++ told ∷ [])) c.as_slice.ensures in
    kept_tell _ _ _ _ c.args.sender b _ c.self.invariant member c.requires.fits long is
