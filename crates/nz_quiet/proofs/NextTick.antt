-- What each actor of a quiet run did in a tick, by the invariant before it.
use Rattle.std.proofs.Common.{◌≡◌, ℕ, suc, ◌*◌, ◌<◌, List, [], ◌++◌, length, Some}
use Rattle.nz_base.specs.Cluster.{replica_count}
use Rattle.nz_base.specs.declared.actor.Actor.{Actor}
use Rattle.nz_base.specs.declared.actor.Actor.TheVariants.{Replica, Proxy, Client}
use Rattle.nz_base.specs.declared.key.Id.{Id}
use Rattle.nz_base.specs.declared.key.Entry.{Entry}
use Rattle.nz_base.specs.declared.limits.TheConstants.{UNITS_PER_TICK}
use Rattle.nz_base.specs.Log.{keys_of, HaveOwnIds}
use Rattle.nz_buffers.specs.Buffers.{held_back}
use Rattle.nz_msg.specs.declared.message.FastReplyBody.{FastReplyBody}
use Rattle.nz_msg.specs.declared.message.Message.TheVariants as messages
use Rattle.nz_machine.specs.declared.event.Record.{Record}
use Rattle.nz_machine.specs.declared.client_event.ClientEvent.{ClientEvent}
use Rattle.nz_machine.specs.runs.Events.{sent_by}
use Rattle.nz_machine.specs.rules.State.{ReplicaData, Open, Group, Out}
use Rattle.nz_machine.specs.rules.Step.{tick_step, script_of}
use Rattle.nz_machine.specs.runs.World.{state_after, Has, IsGroup, IsMember}
use Rattle.nz_machine.proofs.journals.InTurn.{InTurn}
use Rattle.nz_quiet.specs.Requests.{own_proxy}
use Rattle.nz_quiet.specs.Folds.{outs_of, heard_by}
use Rattle.nz_quiet.specs.Replicas.{bodies_of, IsTicked, HasHeard}
use Rattle.nz_quiet.specs.ProxyTicks.{said_of, IsProxyAfter, IsAnsweredFast}
use Rattle.nz_quiet.specs.ClientTicks.{seen_heard, IsClientAfter}
use Rattle.nz_quiet.specs.Invariant.{standing_in}

-- a replica had its clock, and then heard what was in flight to it
pub record IsReplicaAfter (g : Group) (t r : ℕ) (L E : List Entry) (flight : List (Actor × Out)) (before after : ReplicaData) (outs : List Out) : Type 0 where
  pub middle : ReplicaData
  pub first : List Out
  pub second : List Out
  pub ticked : IsTicked g t r L E before middle first
  pub heard : HasHeard g t r L E (held_back E (UNITS_PER_TICK * suc t)) middle (heard_by (Replica r) flight) after second
  pub sends : outs ≡ first ++ second

-- what a client sees in a tick
abbrev pub seen_of : Group → ℕ → List Record → ℕ → List (Actor × Out) → List ClientEvent
seen_of g c J clock flight =
    let s = state_after g (Client c) J in
    let t = (tick_step g (Client c) s clock).0 in
    sent_by c (script_of g c) s t ++ seen_heard g c t (heard_by (Client c) flight)

-- what each actor did in the tick after t
pub record IsNextTick (g : Group) (t : ℕ) (L E : List Entry) (flight : List (Actor × Out)) (J K : List Record) (next : List (Actor × Out)) : Type 0 where
  pub group : IsGroup g
  pub own_ids : HaveOwnIds (keys_of (L ++ E))
  pub turns : (c : ℕ) → c < length g.scripts → InTurn g.window (script_of g c) (state_after g (Client c) J)
  pub members : (a : Actor) (o : Out) → Has next (a, o) → IsMember g a
  pub same : (r q : ℕ) → r < replica_count g.f → q < replica_count g.f → bodies_of (heard_by (Replica r) next) ≡ bodies_of (heard_by (Replica q) next)
  pub replicas : (r : ℕ) → r < replica_count g.f
      → IsReplicaAfter g t r L E flight (state_after g (Replica r) J) (state_after g (Replica r) K) (outs_of (Replica r) next)
  pub proxies : (p : ℕ) → p < g.proxies
      → IsProxyAfter g.f (said_of g L) (state_after g (Proxy p) J) (UNITS_PER_TICK * suc t) (heard_by (Proxy p) flight) (state_after g (Proxy p) K)
      (outs_of (Proxy p) next)
  pub answered : (id : Id) → standing_in g J id ≡ Some (Open [])
      → ((r : ℕ) → r < replica_count g.f
      → (b : FastReplyBody) × (Has (heard_by (Proxy (own_proxy g id.client)) flight) (Replica r, messages.FastReply b) × (b.id ≡ id)))
      → IsAnsweredFast (said_of g L) id (state_after g (Proxy (own_proxy g id.client)) K) (outs_of (Proxy (own_proxy g id.client)) next)
  pub clients : (c : ℕ) → c < length g.scripts
      → IsClientAfter g c (state_after g (Client c) J) (heard_by (Client c) flight) (state_after g (Client c) K) (outs_of (Client c) next)
      (seen_of g c J (UNITS_PER_TICK * suc t) flight)
