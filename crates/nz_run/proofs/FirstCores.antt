-- The cores with which a run begins have not stepped.
use Rattle.std.proofs.Common.{◌≡◌, Bool, [], sym, ap, ◌∙◌, subst}
use Rattle.std.specs.List.{All}
use Rattle.nz_base.specs.declared.actor.Actor.{Actor}
use Rattle.nz_base.specs.declared.actor.Actor.TheVariants as actors
use Rattle.nz_base.specs.declared.scenario.Scenario.{Scenario}
use Rattle.nz_machine.specs.rules.State.{Group}
use Rattle.nz_machine.specs.rules.Step.{Node, first_node}
use Rattle.nz_machine.specs.runs.Schedule.{group_of}
use Rattle.nz_replica.specs.Models.{ReplicaCore}
use Rattle.nz_proxy.specs.Models.{ProxyCore}
use Rattle.nz_client.specs.Models.{ClientCore}
use Rattle.nz_run.specs.declared.cast.Cast.{Cast}
use Rattle.nz_run.specs.Casts.{IsAt, IsCast, replica_node, ReplicaFits, proxy_node, ProxyFits, client_node, ClientFits}
use Rattle.nz_run.specs.Stages.{HasNotStepped}
use Rattle.nz_run.proofs.CoreSteps.{begin_at}

not_stepped : (g : Group) (a : Actor) (meaning : Node) (live : Bool) (fits : Type 0) → IsAt g [] a meaning live fits → HasNotStepped g meaning live fits
not_stepped g a meaning live fits h = record {
  is_of = h.is_of;
  is_first =
      h.stands ∙ ap (λ (s : _). let n : Node = record { actor = a; state = s } in n) (sym (begin_at g a))
      ∙ ap (first_node g) (sym (ap (λ (n : Node). n.actor) h.stands));
  lives = h.lives;
}

abbrev ReplicasFirst : Cast → Scenario → Type 0
ReplicasFirst cast s = All (λ (r : ReplicaCore). HasNotStepped (group_of s) (replica_node r) r.live (ReplicaFits r (group_of s))) cast.replicas.items

pub replicas_first : (s t : Scenario) (cast : Cast) → IsCast (group_of s) [] cast → s ≡ t → ReplicasFirst cast t
replicas_first s t cast h e = subst (ReplicasFirst cast) e (λ k d lt. not_stepped (group_of s) (actors.Replica k) _ _ _ (h.replicas k d lt))

abbrev ProxiesFirst : Cast → Scenario → Type 0
ProxiesFirst cast s = All (λ (p : ProxyCore). HasNotStepped (group_of s) (proxy_node p) p.live (ProxyFits p (group_of s))) cast.proxies.items

pub proxies_first : (s t : Scenario) (cast : Cast) → IsCast (group_of s) [] cast → s ≡ t → ProxiesFirst cast t
proxies_first s t cast h e = subst (ProxiesFirst cast) e (λ k d lt. not_stepped (group_of s) (actors.Proxy k) _ _ _ (h.proxies k d lt))

abbrev ClientsFirst : Cast → Scenario → Type 0
ClientsFirst cast s = All (λ (c : ClientCore). HasNotStepped (group_of s) (client_node c) c.live (ClientFits c (group_of s))) cast.clients.items

pub clients_first : (s t : Scenario) (cast : Cast) → IsCast (group_of s) [] cast → s ≡ t → ClientsFirst cast t
clients_first s t cast h e = subst (ClientsFirst cast) e (λ k d lt. not_stepped (group_of s) (actors.Client k) _ _ _ (h.clients k d lt))
