-- What the loops of the function of this folder keep.
use Rattle.std.proofs.Common.{◌≡◌, ◌++◌}
use Rattle.nz_base.specs.declared.actor.Actor.TheVariants.{Proxy}
use Rattle.nz_proxy.proofs.Sends.{parcels_below}
use Rattle.nz_proxy.proofs.state.ProxyState.send_to_replicas.Given as goal

abbrev pub invariant-loop-replica : goal.invariant-loop-replica
invariant-loop-replica l = l.sends ≡ l.fn.sends ++ parcels_below (Proxy l.self.me) l.message l.replica
