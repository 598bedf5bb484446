-- The cores of all sorts together.
use Rattle.std.proofs.Common.{◌≡◌, ℕ, List, [], ◌∷◌, length, map, Vec, Global, refl, sym, ap, ◌∙◌}
use Rattle.nz_base.specs.Cluster.{replica_count}
use Rattle.nz_base.specs.declared.actor.Actor.TheVariants as actors
use Rattle.nz_base.specs.declared.scenario.Scenario.{Scenario}
use Rattle.nz_machine.specs.declared.event.Event.{Event}
use Rattle.nz_machine.specs.declared.event.Parcel.{Parcel}
use Rattle.nz_machine.specs.declared.event.Record.{Record}
use Rattle.nz_machine.specs.rules.Replicas.{numbers_below}
use Rattle.nz_machine.specs.rules.State.{Group}
use Rattle.nz_machine.specs.rules.Step.{Node}
use Rattle.nz_machine.specs.runs.Schedule.{group_of, IsPlayable}
use Rattle.nz_replica.specs.Models.{ReplicaCore}
use Rattle.nz_proxy.specs.Models.{ProxyCore}
use Rattle.nz_client.specs.Models.{ClientCore}
use Rattle.nz_run.specs.declared.cast.Cast.{Cast}
use Rattle.nz_run.specs.Casts.{AreAt, record_of, replica_node, ReplicaFits, proxy_node, ProxyFits, client_node}
use Rattle.nz_run.specs.Casts.{ClientFits, new_replica, new_proxy, new_client, IsCast}
use Rattle.nz_run.proofs.CoreSteps.{begin_at, all_begin, long_begin, all_stay}

pub cast_begins : (s : Scenario) (cast : Cast) → IsPlayable s
    → cast.replicas.items ≡ map (new_replica s.cluster) (numbers_below (replica_count s.cluster))
    → cast.proxies.items ≡ map (new_proxy s.cluster) (numbers_below s.proxies)
    → cast.clients.items ≡ map (new_client s) (numbers_below s.clients) → IsCast (group_of s) [] cast
cast_begins s cast play replicas proxies clients =
    let g = group_of s in
    record {
      replicas =
          all_begin replica_node (λ (r : ReplicaCore). r.live) ReplicaFits g actors.Replica (new_replica s.cluster)
          (replica_count s.cluster) cast.replicas.items replicas
          (λ k lt. record {
            stands = ap (λ (x : _). let n : Node = record { actor = actors.Replica k; state = x } in
                n) (begin_at g (actors.Replica k));
            lives = refl;
            is_of = refl;
          });
      proxies = all_begin proxy_node (λ (p : ProxyCore). p.live) ProxyFits g actors.Proxy (new_proxy s.cluster) s.proxies cast.proxies.items proxies
          (λ k lt. record {
            stands = ap (λ (x : _). let n : Node = record { actor = actors.Proxy k; state = x } in n) (begin_at g (actors.Proxy k));
            lives = refl;
            is_of = refl;
          });
      clients = all_begin client_node (λ (c : ClientCore). c.live) ClientFits g actors.Client (new_client s) s.clients cast.clients.items clients
          (λ k lt. record {
            stands = ap (λ (x : _). let n : Node = record { actor = actors.Client k; state = x } in n)
                (begin_at g (actors.Client k));
            lives = refl;
            is_of = record { proxies = refl; window = refl; script = refl };
          });
      replica_count = long_begin (new_replica s.cluster) (replica_count s.cluster) cast.replicas.items replicas;
      proxy_count = long_begin (new_proxy s.cluster) s.proxies cast.proxies.items proxies;
      client_count = long_begin (new_client s) s.clients cast.clients.items clients ∙ sym play.scripts;
    }

pub replica_took : (g : Group) (J : List Record) (cast : Cast) (v : Vec ReplicaCore Global) (i tick : ℕ) (e : Event) (sends : List Parcel) → IsCast g J cast
    → AreAt replica_node (λ (r : ReplicaCore). r.live) ReplicaFits g actors.Replica (record_of tick (actors.Replica i) e sends ∷ J) v.items
    → length v.items ≡ length cast.replicas.items
    → IsCast g (record_of tick (actors.Replica i) e sends ∷ J) (record cast { replicas = v })
replica_took g J cast v i tick e sends h at long = record {
  replicas = at;
  proxies = all_stay proxy_node (λ (p : ProxyCore). p.live) ProxyFits g actors.Proxy J cast.proxies.items (actors.Replica i) e sends tick (λ k. refl) h.proxies;
  clients =
      all_stay client_node (λ (c : ClientCore). c.live) ClientFits g actors.Client J cast.clients.items
      (actors.Replica i) e sends tick (λ k. refl) h.clients;
  replica_count = long ∙ h.replica_count;
  proxy_count = h.proxy_count;
  client_count = h.client_count;
}

pub proxy_took : (g : Group) (J : List Record) (cast : Cast) (v : Vec ProxyCore Global) (i tick : ℕ) (e : Event) (sends : List Parcel) → IsCast g J cast
    → AreAt proxy_node (λ (p : ProxyCore). p.live) ProxyFits g actors.Proxy (record_of tick (actors.Proxy i) e sends ∷ J) v.items
    → length v.items ≡ length cast.proxies.items
    → IsCast g (record_of tick (actors.Proxy i) e sends ∷ J) (record cast { proxies = v })
proxy_took g J cast v i tick e sends h at long = record {
  replicas =
      all_stay replica_node (λ (r : ReplicaCore). r.live) ReplicaFits g actors.Replica J cast.replicas.items
      (actors.Proxy i) e sends tick (λ k. refl) h.replicas;
  proxies = at;
  clients =
      all_stay client_node (λ (c : ClientCore). c.live) ClientFits g actors.Client J cast.clients.items
      (actors.Proxy i) e sends tick (λ k. refl) h.clients;
  replica_count = h.replica_count;
  proxy_count = long ∙ h.proxy_count;
  client_count = h.client_count;
}

pub client_took : (g : Group) (J : List Record) (cast : Cast) (v : Vec ClientCore Global) (i tick : ℕ) (e : Event) (sends : List Parcel) → IsCast g J cast
    → AreAt client_node (λ (c : ClientCore). c.live) ClientFits g actors.Client (record_of tick (actors.Client i) e sends ∷ J) v.items
    → length v.items ≡ length cast.clients.items
    → IsCast g (record_of tick (actors.Client i) e sends ∷ J) (record cast { clients = v })
client_took g J cast v i tick e sends h at long = record {
  replicas =
      all_stay replica_node (λ (r : ReplicaCore). r.live) ReplicaFits g actors.Replica J cast.replicas.items
      (actors.Client i) e sends tick (λ k. refl) h.replicas;
  proxies = all_stay proxy_node (λ (p : ProxyCore). p.live) ProxyFits g actors.Proxy J cast.proxies.items (actors.Client i) e sends tick (λ k. refl) h.proxies;
  clients = at;
  replica_count = h.replica_count;
  proxy_count = h.proxy_count;
  client_count = long ∙ h.client_count;
}
