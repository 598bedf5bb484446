-- What the function of this folder owes, proved.
use Rattle.std.proofs.Common.{IsFalse, ◌==◌, sym, ap, subst, ◌∙◌}
use Rattle.nz_base.specs.Cluster.{leader_of}
use Rattle.nz_machine.specs.rules.State.{ReplicaData}
use Rattle.nz_machine.specs.rules.Facts.{ReplicaModel}
use Rattle.nz_machine.specs.rules.Parts.{data_of}
use Rattle.nz_machine.specs.rules.Adopting.{normal_in}
use Rattle.nz_machine.proofs.facts.StateInvariant.{kept_crashed}
use Rattle.nz_machine.proofs.facts.SyncInvariant.{kept_apart}
use Rattle.nz_machine.proofs.facts.ViewInvariant.{started, kept_start}
use Rattle.nz_machine.proofs.state.ReplicaState.adopt_log.Goals as goal

pub adopt-requires-clause-apart : goal.adopt-requires-clause-apart
adopt-requires-clause-apart c = kept_apart _ _ _ _ c.self.invariant

pub invariant_of-self : goal.invariant_of-self
invariant_of-self c =
    let s : ReplicaData = data_of c.self.inside.parts in
    kept_start c.self.inside.parts.cluster c.self.inside.parts.me s c.self.inside.parts.store c.adopt.new.self.log
    c.adopt.new.self.early c.adopt.new.self.late c.args.log c.args.view c.args.commit c.self.invariant c.requires.view
    (subst (λ (v : ReplicaModel). IsFalse (leader_of v.f c.args.view == v.me))
    (sym c.self.view_is) c.requires.follows) c.requires.log c.requires.commit (c.in-Ok.ensures s)

pub invariant_of-self-in-Err : goal.invariant_of-self-in-Err
invariant_of-self-in-Err c = kept_crashed _ _ _ _ c.self.invariant.member c.forget.ensures

pub returns-in-Ok : goal.returns-in-Ok
returns-in-Ok c =
    let s : ReplicaData = data_of c.self.inside.parts in
    ap (λ (t : ReplicaData). record { f = c.self.inside.parts.cluster; me = c.self.inside.parts.me; state = t })
    (sym (started s c.adopt.new.self.log c.adopt.new.self.early c.adopt.new.self.late c.args.log c.args.view c.args.commit (c.in-Ok.ensures s)))
    ∙ ap (λ (v : ReplicaModel). record { f = v.f; me = v.me; state = normal_in v.state c.args.view c.args.log c.args.commit }) c.self.view_is
