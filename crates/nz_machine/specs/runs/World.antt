-- World runs. A run is a list of records, the newest first.
use Rattle.std.specs.Prelude.{◌≡◌, ℕ, ◌+◌, ◌^◌, ◌<◌, ◌≤◌, ◌⊎◌, List, [], ◌∷◌, ◌++◌, length, map, fold, IsSome, if◌then◌else◌}
use Rattle.std.specs.List.{AllByRecursion}
use Rattle.nz_base.specs.Actor.{actor_eq}
use Rattle.nz_base.specs.Cluster.{replica_count}
use Rattle.nz_base.specs.declared.actor.Actor.{Actor}
use Rattle.nz_base.specs.declared.actor.Actor.TheVariants.{Replica, Proxy, Client}
use Rattle.nz_base.specs.declared.scenario.Request.{Request}
use Rattle.nz_base.specs.declared.limits.TheConstants.{MAX_CLOCK, MAX_F, MAX_PROXIES, MAX_WINDOW, MAX_CLIENTS, MAX_REQUESTS}
use Rattle.nz_store.specs.Reading.{command_of}
use Rattle.nz_machine.specs.declared.event.Event.{Event}
use Rattle.nz_machine.specs.declared.event.Event.TheVariants.{Deliver, Cut, Tick, Alarm, Crash, Restart}
use Rattle.nz_machine.specs.declared.event.Parcel.{Parcel}
use Rattle.nz_machine.specs.declared.event.Record.{Record}
use Rattle.nz_machine.specs.rules.State.{State, Group}
use Rattle.nz_machine.specs.rules.Step.{first, node_step}

-- A request whose bytes are a command.
pub record HasCommand (request : Request) : Type 0 where
  pub command : IsSome (command_of request.command)

-- How many requests the scripts have together.
abbrev pub request_count : List (List Request) → ℕ
request_count scripts = fold (λ n m. n + m) 0 (map length scripts)

-- f, the proxies, the window, the clients and their requests are each within their limits, and each request is a command.
pub record IsGroup (g : Group) : Type 0 where
  pub least_f : 1 ≤ g.f
  pub most_f : g.f ≤ MAX_F
  pub least_proxies : 1 ≤ g.proxies
  pub most_proxies : g.proxies ≤ MAX_PROXIES
  pub least_window : 1 ≤ g.window
  pub most_window : g.window ≤ MAX_WINDOW
  pub least_clients : 1 ≤ length g.scripts
  pub most_clients : length g.scripts ≤ MAX_CLIENTS
  pub few_requests : request_count g.scripts ≤ MAX_REQUESTS
  pub commands : AllByRecursion (λ script. AllByRecursion HasCommand script) g.scripts

-- An actor's state after the records.
unfoldable pub state_after : Group → (a : Actor) → List Record → State a
state_after g a [] = first g a
state_after g a (r ∷ J) =
    let before = state_after g a J in
    if actor_eq r.actor a then (node_step g a before r.event).0 else before

-- All parcels that were sent.
abbrev pub sent_in : List Record → List Parcel
sent_in [] = []
sent_in (r ∷ J) = r.sends ++ sent_in J

-- y is among them.
abbrev pub Has : {X : Type 0} → List X → X → Type 0
Has [] y = ⊥
Has (x ∷ xs) y = (x ≡ y) ⊎ Has xs y

-- Replicas and proxies are of the cluster, and a client has a script.
abbrev pub IsMember : Group → Actor → Type 0
IsMember g (Replica r) = r < replica_count g.f
IsMember g (Proxy p) = p < g.proxies
IsMember g (Client c) = c < length g.scripts

-- The record restarts the actor with the nonce.
abbrev pub Restarts : Actor → ℕ → Record → Type 0
Restarts a nonce r = (r.actor ≡ a) × (r.event ≡ Restart nonce)

-- What may happen to an actor: a parcel that was sent to it comes, whole or cut, maybe not for the first
-- time; its clock reads anything; it crashes; it restarts with a nonce of 64 bits that it has not had.
abbrev pub MayHappen : List Record → Actor → Event → Type 0
MayHappen J a (Deliver p) = (p.to ≡ a) × Has (sent_in J) p
MayHappen J a (Cut kept p) = (p.to ≡ a) × Has (sent_in J) p
MayHappen J a (Tick clock) = clock ≤ MAX_CLOCK
MayHappen J a Alarm = Unit {0}
MayHappen J a Crash = Unit {0}
MayHappen J a (Restart nonce) = (nonce < 2 ^ 64) × AllByRecursion (λ r. ¬ Restarts a nonce r) J

-- The record may follow the earlier ones.
pub record Follows (g : Group) (J : List Record) (r : Record) : Type 0 where
  pub member : IsMember g r.actor
  pub event : MayHappen J r.actor r.event
  pub sends : r.sends ≡ (node_step g r.actor (state_after g r.actor J) r.event).1

-- A run of the machine by a group: parcels may be lost, repeated, reordered, delayed and cut, clocks may read
-- anything, and actors may crash.
abbrev pub World : Group → List Record → Type 0
World g [] = IsGroup g
World g (r ∷ J) = Follows g J r × World g J
