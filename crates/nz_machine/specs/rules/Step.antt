-- One step of an actor: which rule handles an event.
use Rattle.std.specs.Prelude.{ℕ, Bool, true, ◌&&◌, not, ◌==◌, List, [], length, map, Option, Some, None, Result, Ok, Err, nat_lt, if◌then◌else◌, slice_index_or}
use Rattle.nz_base.specs.Actor.{actor_eq}
use Rattle.nz_base.specs.Cluster.{replica_count}
use Rattle.nz_base.specs.declared.actor.Actor.{Actor}
use Rattle.nz_base.specs.declared.actor.Actor.TheVariants.{Replica, Proxy, Client}
use Rattle.nz_base.specs.declared.scenario.Request.{Request}
use Rattle.nz_msg.specs.declared.envelope.Envelope.{Envelope}
use Rattle.nz_msg.specs.declared.refusal.DecodeRefusal.{DecodeRefusal}
use Rattle.nz_msg.specs.declared.message.Message.{Message}
use Rattle.nz_msg.specs.declared.message.Message.TheVariants as messages
use Rattle.nz_msg.specs.Envelope.{encode_of, decode_of}
use Rattle.nz_machine.specs.declared.event.Event.{Event}
use Rattle.nz_machine.specs.declared.event.Event.TheVariants.{Deliver, Cut, Tick, Alarm, Crash, Restart}
use Rattle.nz_machine.specs.declared.event.Parcel.{Parcel}
use Rattle.nz_machine.specs.rules.State.{ReplicaData, ProxyData, ClientData, State, Group, Out}
use Rattle.nz_machine.specs.declared.data.Status.{Status}
use Rattle.nz_machine.specs.declared.data.Status.TheVariants.{Normal, ViewChange, Rejoining, Down}
use Rattle.nz_machine.specs.rules.Replicas.{first_replica, is_down, leads, ◌and_then◌}
use Rattle.nz_machine.specs.rules.Requests.{request_rule}
use Rattle.nz_machine.specs.rules.Releases.{release_rule}
use Rattle.nz_machine.specs.rules.LogMods.{log_mods_to_others, log_mod_rule, fetch_rule, fetch_reply_rule, sync_report_rule}
use Rattle.nz_machine.specs.rules.Views.{alarm_rule, view_ask_rule, quiet_timer, change_timer}
use Rattle.nz_machine.specs.rules.Adopting.{start_view_rule}
use Rattle.nz_machine.specs.rules.Begins.{view_change_rule}
use Rattle.nz_machine.specs.rules.Rejoining.{crash_rule, restart_rule, vector_ask_rule, vector_tell_rule, rejoin_ask_rule}
use Rattle.nz_machine.specs.rules.Rejoining.{rejoin_tell_rule, state_ask_rule, state_tell_rule, rejoin_timer}
use Rattle.nz_machine.specs.rules.Proxies.{first_proxy, stamp_rule, reply_rule, of_fast, of_slow, clock_rule, crashed_proxy, restarted_proxy}
use Rattle.nz_machine.specs.rules.Clients.{first_client, wait_rule, accept_rule}

-- The requests of a client.
abbrev pub script_of : Group → ℕ → List Request
script_of g c = slice_index_or g.scripts c []

-- What an actor starts with.
abbrev pub first : Group → (a : Actor) → State a
first g (Replica r) = first_replica g.f
first g (Proxy p) = first_proxy g.f
first g (Client c) = first_client

-- ---- what is read of a parcel

-- A replica that sends is of the cluster.
abbrev pub is_in_cluster : ℕ → Actor → Bool
is_in_cluster f (Replica r) = nat_lt r (replica_count f)
is_in_cluster f _ = true

-- The crash vector of a message, if it carries one.
abbrev pub message_vector : Message → Option (List ℕ)
message_vector (messages.FastReply b) = Some b.vector
message_vector (messages.LogMod b) = Some b.vector
message_vector (messages.ViewChange b) = Some b.vector
message_vector (messages.StartView b) = Some b.vector
message_vector (messages.VectorTell b) = Some b.vector
message_vector (messages.RejoinAsk b) = Some b.vector
message_vector (messages.RejoinTell b) = Some b.vector
message_vector (messages.StateAsk b) = Some b.vector
message_vector (messages.StateTell b) = Some b.vector
message_vector _ = None

-- A vector has a counter for each replica.
abbrev pub is_sized : ℕ → Option (List ℕ) → Bool
is_sized f None = true
is_sized f (Some vector) = length vector == replica_count f

-- The frame's sender and receiver are those of the parcel, the receiver is this actor, and the sender is another.
abbrev pub is_for : Actor → Parcel → Envelope → Bool
is_for me p e = actor_eq e.from p.from && (actor_eq e.to p.to && (actor_eq e.to me && not (actor_eq e.from me)))

-- What was decoded, if it is for this actor.
abbrev pub envelope_if_for : Actor → Parcel → Result Envelope DecodeRefusal → Option Envelope
envelope_if_for me p (Err refusal) = None
envelope_if_for me p (Ok e) = if is_for me p e then Some e else None

-- What this actor reads of a parcel.
unfoldable pub envelope_for : Actor → Parcel → Option Envelope
envelope_for me p = envelope_if_for me p (decode_of p.frame)

-- It counts where it is of the cluster's size.
abbrev pub if_from_cluster : ℕ → Option Envelope → Option Envelope
if_from_cluster f None = None
if_from_cluster f (Some e) = if is_in_cluster f e.from && is_sized f (message_vector e.message) then Some e else None

-- What this actor reads of a parcel, where it counts.
abbrev pub accepted_envelope : ℕ → Actor → Parcel → Option Envelope
accepted_envelope f me p = if_from_cluster f (envelope_for me p)

-- ---- which rule

-- The rule of a replica for a message, by its kind and the kind of its sender. Any other changes nothing.
abbrev pub replica_message : ℕ → ℕ → ReplicaData → Actor → Message → ReplicaData × List Out
replica_message f me s (Proxy p) (messages.Timed b) = request_rule f me s p b
replica_message f me s (Replica r) (messages.LogMod b) = log_mod_rule f me s r b
replica_message f me s (Replica r) (messages.Fetch b) = fetch_rule f me s r b
replica_message f me s (Replica r) (messages.FetchReply b) = fetch_reply_rule f me s r b
replica_message f me s (Replica r) (messages.SyncReport b) = sync_report_rule f me s r b
replica_message f me s (Replica r) (messages.ViewAsk b) = view_ask_rule f me s b
replica_message f me s (Replica r) (messages.ViewChange b) = view_change_rule f me s r b
replica_message f me s (Replica r) (messages.StartView b) = start_view_rule f me s r b
replica_message f me s (Replica r) (messages.VectorAsk b) = vector_ask_rule s r b
replica_message f me s (Replica r) (messages.VectorTell b) = vector_tell_rule f me s r b
replica_message f me s (Replica r) (messages.RejoinAsk b) = rejoin_ask_rule me s r b
replica_message f me s (Replica r) (messages.RejoinTell b) = rejoin_tell_rule f me s r b
replica_message f me s (Replica r) (messages.StateAsk b) = state_ask_rule f me s r b
replica_message f me s (Replica r) (messages.StateTell b) = state_tell_rule f me s r b
replica_message f me s _ _ = (s, [])

-- The rule of a proxy for a message.
abbrev pub proxy_message : ℕ → ProxyData → Actor → Message → ProxyData × List Out
proxy_message f s (Client c) (messages.Request b) = stamp_rule f s c b
proxy_message f s (Replica r) (messages.FastReply b) = reply_rule f s r b.id b.delay (of_fast r b)
proxy_message f s (Replica r) (messages.SlowReply b) = reply_rule f s r b.id b.delay (of_slow r b)
proxy_message f s _ _ = (s, [])

-- The rule of a client for a message: it hears answers.
abbrev pub client_message : ℕ → ℕ → ℕ → List Request → ClientData → Actor → Message → ClientData × List Out
client_message window proxies me script s (Proxy p) (messages.Answer b) = accept_rule window proxies me script s b
client_message window proxies me script s _ _ = (s, [])

-- A replica or a proxy that is down hears nothing.
abbrev pub message_step : Group → (a : Actor) → State a → Actor → Message → State a × List Out
message_step g (Replica r) s from m = if is_down s.status then (s, []) else replica_message g.f r s from m
message_step g (Proxy p) s from m = if s.is_down then (s, []) else proxy_message g.f s from m
message_step g (Client c) s from m = client_message g.window g.proxies c (script_of g c) s from m

-- The step on what was read. Where nothing was, nothing changes.
abbrev pub envelope_step : Group → (a : Actor) → State a → Option Envelope → State a × List Out
envelope_step g a s None = (s, [])
envelope_step g a s (Some e) = message_step g a s e.from e.message

-- What a replica does at a tick after its releases, by its mode.
abbrev pub mode_timer : Status → ℕ → ℕ → ReplicaData → ReplicaData × List Out
mode_timer Normal f me s = if leads f me s then (s, log_mods_to_others f me s) else quiet_timer f me s
mode_timer ViewChange f me s = change_timer f me s
mode_timer Rejoining f me s = rejoin_timer f me s
mode_timer Down f me s = (s, [])

-- At a tick a replica sets its clock and releases what is due. Then the leader in normal operation sends the others
-- its log modifications, and any other replica counts the tick.
abbrev pub tick_rule : ℕ → ℕ → ReplicaData → ℕ → ReplicaData × List Out
tick_rule f me s clock = release_rule f me s clock and_then (λ t. mode_timer t.status f me t)

-- A replica or a proxy that is down has no clock.
abbrev pub tick_step : Group → (a : Actor) → State a → ℕ → State a × List Out
tick_step g (Replica r) s clock = if is_down s.status then (s, []) else tick_rule g.f r s clock
tick_step g (Proxy p) s clock = if s.is_down then (s, []) else (clock_rule s clock, [])
tick_step g (Client c) s clock = wait_rule g.window g.proxies c (script_of g c) s

-- Alarms are for replicas.
abbrev pub alarm_step : Group → (a : Actor) → State a → State a × List Out
alarm_step g (Replica r) s = alarm_rule g.f r s
alarm_step g _ s = (s, [])

-- Clients do not crash.
abbrev pub crash_step : Group → (a : Actor) → State a → State a × List Out
crash_step g (Replica r) s = crash_rule g.f s
crash_step g (Proxy p) s = (crashed_proxy g.f, [])
crash_step g (Client c) s = (s, [])

-- Clients do not restart.
abbrev pub restart_step : Group → (a : Actor) → State a → ℕ → State a × List Out
restart_step g (Replica r) s nonce = restart_rule g.f r s nonce
restart_step g (Proxy p) s nonce = (restarted_proxy g.f s, [])
restart_step g (Client c) s nonce = (s, [])

-- The state after an event, and what is sent. A cut parcel changes nothing.
abbrev pub event_step : Group → (a : Actor) → State a → Event → State a × List Out
event_step g a s (Deliver p) = envelope_step g a s (accepted_envelope g.f a p)
event_step g a s (Cut kept p) = (s, [])
event_step g a s (Tick clock) = tick_step g a s clock
event_step g a s Alarm = alarm_step g a s
event_step g a s Crash = crash_step g a s
event_step g a s (Restart nonce) = restart_step g a s nonce

-- A message as a parcel: its frame on the way to the receiver.
abbrev pub parcel : Actor → Out → Parcel
parcel from o = record { from = from; to = o.0; frame = encode_of from o.0 o.1 }

-- The same, with what is sent as parcels.
abbrev pub node_step : Group → (a : Actor) → State a → Event → State a × List Parcel
node_step g a s e = let t = event_step g a s e in (t.0, map (parcel a) t.1)

-- ---- an actor with its state

-- An actor and its state.
pub record Node : Type 0 where
  pub actor : Actor
  pub state : State actor

-- The node after an event, and the parcels that it sends.
abbrev pub node_run : Group → Node → Event → Node × List Parcel
node_run g n e = let t = node_step g n.actor n.state e in (record { actor = n.actor; state = t.0 }, t.1)

-- The node of an actor at the start.
abbrev pub first_node : Group → Actor → Node
first_node g a = record { actor = a; state = first g a }
