-- What a contract sees of a client, and what the code keeps.
use Rattle.std.specs.Prelude.{ℕ, Bool, ◌≡◌, ◌<◌, ◌≤◌, ◌+◌, ◌^◌, List, [], ◌∷◌, ◌++◌, length, map, Option, Some, None}
use Rattle.std.specs.List.{AllByRecursion}
use Rattle.nz_base.specs.declared.actor.Actor.TheVariants.{Client}
use Rattle.nz_base.specs.declared.scenario.Request.{Request}
use Rattle.nz_base.specs.declared.limits.TheConstants.{MAX_CLIENT, MAX_PROXIES, MAX_WINDOW, RETRY_TICKS}
use Rattle.nz_msg.specs.Fields.{command}
use Rattle.nz_machine.specs.declared.data.Attempt.{Attempt}
use Rattle.nz_machine.specs.declared.event.Parcel.{Parcel}
use Rattle.nz_machine.specs.rules.State.{ClientData, Group, Out}
use Rattle.nz_machine.specs.rules.Step.{script_of, parcel}

-- The client's number, how many proxies there are, how many requests it may have open, its requests, and its state.
pub record ClientModel : Type 0 where
  pub me : ℕ
  pub proxies : ℕ
  pub window : ℕ
  pub script : List Request
  pub state : ClientData

-- An open request was sent to one of the proxies, and waits not too long.
pub record IsOfProxies (proxies : ℕ) (a : Attempt) : Type 0 where
  pub proxy : a.proxy < proxies
  pub since : a.since < RETRY_TICKS

-- A request that a frame can carry.
pub record IsSendable (request : Request) : Type 0 where
  pub command : command.fits request.command

-- Frames can carry each request of the script.
abbrev pub AreSendable : List Request → Type 0
AreSendable script = AllByRecursion IsSendable script

-- What the code keeps of a client's parts.
pub record IsInTurn (me proxies window : ℕ) (script : List Request) (sent accepted : ℕ) (attempts : List Attempt) : Type 0 where
  pub named : me ≤ MAX_CLIENT
  pub some_proxies : 1 ≤ proxies
  pub few_proxies : proxies ≤ MAX_PROXIES
  pub narrow : window ≤ MAX_WINDOW
  pub sendable : AreSendable script
  pub short : length script < 2 ^ 32
  pub in_script : sent ≤ length script
  pub in_turn : accepted + length attempts ≤ sent
  pub few : length attempts ≤ window
  pub of_proxies : AllByRecursion (IsOfProxies proxies) attempts

-- The least number of an open request, if one is: they are in rising number.
abbrev pub least_open : List Attempt → Option ℕ
least_open [] = None
least_open (a ∷ attempts) = Some a.num

-- The client is of this group.
pub record IsClientInGroup (g : Group) (model : ClientModel) : Type 0 where
  pub proxies : model.proxies ≡ g.proxies
  pub window : model.window ≡ g.window
  pub script : model.script ≡ script_of g model.me

-- One client, maybe in another state.
pub record IsSameClient (a b : ClientModel) : Type 0 where
  pub me : b.me ≡ a.me
  pub proxies : b.proxies ≡ a.proxies
  pub window : b.window ≡ a.window
  pub script : b.script ≡ a.script

-- What a rule does to a client, and to the messages that wait to be sent: the state is the rule's, and its messages are
-- appended to the earlier ones.
pub record ClientDoes (old new : ClientModel) (before after : List Parcel) (t : ClientData × List Out) : Type 0 where
  pub state : new ≡ record old { state = t.0 }
  pub sends : after ≡ before ++ map (parcel (Client old.me)) t.1

-- What a contract sees of a client as a core: whether no step has run out of memory, too.
pub record ClientCore : Type 0 where
  pub model : ClientModel
  pub live : Bool
