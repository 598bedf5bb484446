-- What a contract sees of a proxy, and what the code keeps.
use Rattle.std.specs.Prelude.{ℕ, Bool, ◌≡◌, ◌≤◌, List, [], ◌++◌, length, map, if◌then◌else◌}
use Rattle.std.specs.List.{AllByRecursion}
use Rattle.nz_base.specs.Cluster.{replica_count}
use Rattle.nz_base.specs.declared.actor.Actor.TheVariants.{Proxy}
use Rattle.nz_base.specs.declared.key.Id.{Id}
use Rattle.nz_base.specs.declared.limits.TheConstants.{MAX_CLOCK, MAX_PROXY}
use Rattle.nz_machine.specs.declared.event.Parcel.{Parcel}
use Rattle.nz_machine.specs.rules.State.{ProxyData, Group, Out}
use Rattle.nz_machine.specs.rules.Step.{parcel}
use Rattle.nz_machine.specs.rules.Proxies.{clock_rule}
use Rattle.nz_proxy.specs.declared.standing.Standing.{Standing}
use Rattle.nz_proxy.specs.Standings.{IsFitEntry}

-- The f of the cluster, the proxy's number, and its state.
pub record ProxyModel : Type 0 where
  pub f : ℕ
  pub me : ℕ
  pub state : ProxyData

-- What the code keeps of a proxy's parts.
pub record IsKeptProxy (f me clock : ℕ) (samples : List (List ℕ)) (entries : List (Id × Standing)) : Type 0 where
  pub named : me ≤ MAX_PROXY
  pub in_time : clock ≤ MAX_CLOCK
  pub window : length samples ≡ replica_count f
  pub standings : AllByRecursion (IsFitEntry f) entries

-- A group with this cluster. No rule of a proxy asks for more of it.
abbrev pub group_with_cluster : ℕ → Group
group_with_cluster f = record { f = f; proxies = 0; window = 0; scripts = [] }

-- One proxy, maybe in another state.
pub record IsSameProxy (a b : ProxyModel) : Type 0 where
  pub f : b.f ≡ a.f
  pub me : b.me ≡ a.me

-- What a rule does to a proxy, and to the messages that wait to be sent: the state is the rule's, and its messages are
-- appended to the earlier ones.
pub record ProxyDoes (old new : ProxyModel) (before after : List Parcel) (t : ProxyData × List Out) : Type 0 where
  pub state : new ≡ record old { state = t.0 }
  pub sends : after ≡ before ++ map (parcel (Proxy old.me)) t.1

-- What a contract sees of a proxy as a core: whether no step has run out of memory, too.
pub record ProxyCore : Type 0 where
  pub model : ProxyModel
  pub live : Bool

-- The state after a tick.
abbrev pub proxy_after_tick : ProxyData → ℕ → ProxyData
proxy_after_tick s clock = if s.is_down then s else clock_rule s clock
