-- What the function of this folder owes, proved.
use Rattle.nz_machine.proofs.facts.ViewInvariant.{kept_strays}
use Rattle.nz_machine.proofs.state.ReplicaState.drop_strays.Goals as goal

pub invariant_of-self : goal.invariant_of-self
invariant_of-self c = kept_strays _ _ _ _ c.drop_stray_reports.new.reports.items c.self.invariant c.drop_stray_reports.ensures
