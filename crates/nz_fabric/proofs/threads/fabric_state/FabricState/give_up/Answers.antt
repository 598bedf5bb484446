-- What the function of this folder owes, proved.
use Rattle.std.proofs.Common.{arith}
use Rattle.nz_fabric.proofs.several_threads.Sharing.{booked_given_up}
use Rattle.nz_fabric.proofs.threads.fabric_state.FabricState.give_up.Goals as goal

pub invariant_of-self : goal.invariant_of-self
invariant_of-self g c = (
  c.self.invariant.0,
  rw (c.close.ensures.closed)
      (booked_given_up _ _ c.args.batch.number c.sub.new.self.total c.self.invariant.1 c.close.ensures.place
      (omega (arith, c.sub.ensures.total, c.audit.ensures.total))),
)
