-- The cores of a run, each with the state that the records lead its actor to.
use Rattle.std.specs.Prelude.{◌≡◌, ℕ, ◌<◌, Bool, true, List, length, get_or}
use Rattle.nz_base.specs.Cluster.{replica_count}
use Rattle.nz_base.specs.declared.actor.Actor.{Actor}
use Rattle.nz_base.specs.declared.actor.Actor.TheVariants as actors
use Rattle.nz_base.specs.declared.scenario.Scenario.{Scenario}
use Rattle.nz_machine.specs.declared.event.Event.{Event}
use Rattle.nz_machine.specs.declared.event.Parcel.{Parcel}
use Rattle.nz_machine.specs.declared.event.Record.{Record}
use Rattle.nz_machine.specs.rules.State.{Group}
use Rattle.nz_machine.specs.rules.Replicas.{first_replica}
use Rattle.nz_machine.specs.rules.Proxies.{first_proxy}
use Rattle.nz_machine.specs.rules.Clients.{first_client}
use Rattle.nz_machine.specs.rules.Step.{Node, node_step, script_of}
use Rattle.nz_machine.specs.runs.World.{state_after, World}
use Rattle.nz_machine.specs.runs.Schedule.{group_of}
use Rattle.nz_fabric.specs.alone.States.{State, records_of}
use Rattle.nz_replica.specs.Models.{ReplicaCore}
use Rattle.nz_proxy.specs.Models.{ProxyCore}
use Rattle.nz_client.specs.Models.{ClientCore, IsClientInGroup}
use Rattle.nz_run.specs.declared.cast.Cast.{Cast}

-- The actor's core: its state is the actor's after the records, and it is live.
pub record IsAt (g : Group) (J : List Record) (a : Actor) (meaning : Node) (live : Bool) (fits : Type 0) : Type 0 where
  pub stands : meaning ≡ record { actor = a; state = state_after g a J }
  pub lives : live ≡ true
  pub is_of : fits

-- Each core of a list is that of the actor of its place.
abbrev pub AreAt : {C : Type 0} → (C → Node) → (C → Bool) → (C → Group → Type 0) → Group → (ℕ → Actor) → List Record → List C → Type 0
AreAt {C} meaning live fits g named J cores =
    (k : ℕ) (d : C) → k < length cores → IsAt g J (named k) (meaning (get_or cores k d)) (live (get_or cores k d)) (fits (get_or cores k d) g)

-- A record of an actor in a tick.
abbrev pub record_of : ℕ → Actor → Event → List Parcel → Record
record_of tick a e sends = record { tick = tick; actor = a; event = e; sends = sends }

-- What an actor sends at an event after the records.
abbrev pub sends_of : Group → List Record → Actor → Event → List Parcel
sends_of g J a e = (node_step g a (state_after g a J) e).1

-- ---- the cores of each sort

-- The actor that a replica's core is, with its state.
abbrev pub replica_node : ReplicaCore → Node
replica_node r = record { actor = actors.Replica r.model.me; state = r.model.state }

-- The replica is of the group's cluster.
abbrev pub ReplicaFits : ReplicaCore → Group → Type 0
ReplicaFits r g = g.f ≡ r.f

-- The actor that a proxy's core is, with its state.
abbrev pub proxy_node : ProxyCore → Node
proxy_node p = record { actor = actors.Proxy p.model.me; state = p.model.state }

-- The proxy is of the group's cluster.
abbrev pub ProxyFits : ProxyCore → Group → Type 0
ProxyFits p g = g.f ≡ p.model.f

-- The actor that a client's core is, with its state.
abbrev pub client_node : ClientCore → Node
client_node c = record { actor = actors.Client c.model.me; state = c.model.state }

-- The client is of the group: its script, the window and the number of proxies.
abbrev pub ClientFits : ClientCore → Group → Type 0
ClientFits c g = IsClientInGroup g c.model

-- What the cores begin with.
abbrev pub new_replica : ℕ → ℕ → ReplicaCore
new_replica f me = record { f = f; model = record { f = f; me = me; state = first_replica f }; live = true }

-- The core of a proxy at the start.
abbrev pub new_proxy : ℕ → ℕ → ProxyCore
new_proxy f me = record { model = record { f = f; me = me; state = first_proxy f }; live = true }

-- The core of a client at the start.
abbrev pub new_client : Scenario → ℕ → ClientCore
new_client s me =
    record { model = record { me = me; proxies = s.proxies; window = s.window; script = script_of (group_of s) me; state = first_client }; live = true }

-- Every actor of the group has its core.
pub record IsCast (g : Group) (J : List Record) (cast : Cast) : Type 0 where
  pub replicas : AreAt replica_node (λ r. r.live) ReplicaFits g actors.Replica J cast.replicas.items
  pub proxies : AreAt proxy_node (λ p. p.live) ProxyFits g actors.Proxy J cast.proxies.items
  pub clients : AreAt client_node (λ c. c.live) ClientFits g actors.Client J cast.clients.items
  pub replica_count : length cast.replicas.items ≡ replica_count g.f
  pub proxy_count : length cast.proxies.items ≡ g.proxies
  pub client_count : length cast.clients.items ≡ length g.scripts

-- The records so far are a run of the world, and the cores have the states that they lead to.
pub record IsUnderWay (f : State) (cast : Cast) : Type 0 where
  pub world : World (group_of f.scenario) (records_of f)
  pub is_cast : IsCast (group_of f.scenario) (records_of f) cast
