-- What the function of this folder owes, proved.
use Rattle.std.proofs.Common.{refl}
use Rattle.nz_base.specs.declared.actor.Actor.TheVariants as actors
use Rattle.nz_run.proofs.CoreSteps.{if_ok}
use Rattle.nz_run.proofs.AllCores.{replica_took, proxy_took, client_took}
use Rattle.nz_run.proofs.cast.Cast.step.Goals as goal

pub returns-in-Replica : goal.returns-in-Replica
returns-in-Replica c =
    rw c.in-Replica.is
    (if_ok c.step_at.result _ _
    (λ sends h g J tick cast member.
    let t = h g actors.Replica J tick (λ i k. refl) cast.replicas in
    (t.0, replica_took g J c.args.self.now c.step_at.new.cores c.in-Replica.number tick c.args.event.now sends cast t.1 c.step_at.ensures.length))
    c.step_at.ensures.step)

pub returns-in-Proxy : goal.returns-in-Proxy
returns-in-Proxy c =
    rw c.in-Proxy.is
    (if_ok c.step_at-in-Proxy.result _ _
    (λ sends h g J tick cast member.
    let t = h g actors.Proxy J tick (λ i k. refl) cast.proxies in
    (t.0, proxy_took g J c.args.self.now c.step_at-in-Proxy.new.cores c.in-Proxy.number tick c.args.event.now sends cast t.1 c.step_at-in-Proxy.ensures.length))
    c.step_at-in-Proxy.ensures.step)

pub returns-in-Client : goal.returns-in-Client
returns-in-Client c =
    rw c.in-Client.is
    (if_ok c.step_at-in-Client.result _ _
    (λ sends h g J tick cast member.
    let t = h g actors.Client J tick (λ i k. refl) cast.clients in (
      t.0,
      client_took g J c.args.self.now c.step_at-in-Client.new.cores c.in-Client.number tick c.args.event.now sends
          cast t.1 c.step_at-in-Client.ensures.length,
    ))
    c.step_at-in-Client.ensures.step)
