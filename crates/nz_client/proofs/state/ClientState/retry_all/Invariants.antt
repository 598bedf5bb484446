-- What the loops of the function of this folder keep.
use Rattle.std.proofs.Common.{◌≡◌, ◌++◌, map, take}
use Rattle.nz_base.specs.declared.actor.Actor.TheVariants.{Client}
use Rattle.nz_machine.specs.rules.Clients.{retries}
use Rattle.nz_machine.specs.rules.Step.{parcel}
use Rattle.nz_client.proofs.state.ClientState.retry_all.Given as goal

abbrev pub invariant-loop-attempt : goal.invariant-loop-attempt
invariant-loop-attempt l =
    l.sends ≡ l.initial.sends ++ map (parcel (Client l.self.me)) (retries l.self.proxies l.self.script (take l.attempt-index l.attempt-items))
