-- What the function of this folder owes, proved.
use Rattle.std.proofs.Common.{[], refl, ap, ◌∙◌}
use Rattle.nz_machine.specs.rules.Facts.{ReplicaModel}
use Rattle.nz_replica.proofs.replica.ReplicaCore.step.Goals as goal

-- a step leaves the cluster, as it says of any group with it, and what it sends is taken out
pub invariant_of-self : goal.invariant_of-self
invariant_of-self c =
    λ live. (
      ap (λ (v : ReplicaModel). v.f) (c.in-Ok.ensures (record { f = c.self.inside.state.f; proxies = 0; window = 0; scripts = [] }) refl).state
          ∙ (c.self.invariant live).0,
      c.take.ensures.empty,
    )
