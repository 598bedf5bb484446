-- What the function of this folder owes, proved.
use Rattle.std.proofs.Common.{◌≡◌, [], ℕ, ap, sym, ◌∙◌, inl, inr}
use Rattle.nz_base.specs.declared.actor.Actor.{Actor}
use Rattle.nz_base.specs.declared.actor.Actor.TheVariants.{Proxy}
use Rattle.nz_machine.specs.rules.Step.{envelope_for, accepted_envelope, envelope_step}
use Rattle.nz_proxy.specs.Models.{group_with_cluster}
use Rattle.nz_proxy.proofs.Passing.{counts, does_nothing, passed_over}
use Rattle.nz_proxy.proofs.state.ProxyState.deliver.Goals as goal
use Rattle.nz_proxy.proofs.state.ProxyState.deliver.Goals.{then-is_down-via-then-is_down, then-is_down-via-else-is_down+then-not-is_from_cluster}

-- a proxy that is down, and a message that does not count
nothing_done : (c : goal.Joined-envelope)
    → envelope_step (group_with_cluster c.args.self.now.f) (Proxy c.args.self.now.me) c.args.self.now.state
    (accepted_envelope c.args.self.now.f (Proxy c.args.self.now.me) c.args.p.now) ≡ (c.args.self.now.state, [])
nothing_done c =
    let model = c.args.self.now in
    let is = ap (λ (a : Actor). envelope_for a c.args.p.now) (sym c.actor.ensures.actor) ∙ sym c.in_ok-envelope.ensures.value ∙ c.in-Some.is in
    elim c.then-is_down.branch [
      | then-is_down-via-then-is_down w ↦ passed_over model.f model.me model.state _ c.in-Some.envelope is (inl (sym c.is_down.ensures ∙ w.if-is_down.true))
      | then-is_down-via-else-is_down+then-not-is_from_cluster w ↦
          passed_over model.f model.me model.state _ c.in-Some.envelope is
          (inr (ap (λ (f : ℕ). counts f c.in-Some.envelope) (sym w.cluster.ensures) ∙ sym w.is_from_cluster.ensures ∙ w.if-not-is_from_cluster.true))
    ]

pub returns-then-is_down-clause-rule : goal.returns-then-is_down-clause-rule
returns-then-is_down-clause-rule c = does_nothing c.args.self.now c.args.sends.now _ (nothing_done c)
