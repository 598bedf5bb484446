-- What a message shows of its sender: it is read off the sender's states before and after the record that sends it.
use Rattle.std.specs.Prelude.{◌≡◌, ℕ, ◌+◌, ◌-◌, ◌<◌, ◌≤◌, ◌==◌, not, true, false, List, ◌++◌, length, Some}
use Rattle.std.specs.Prelude.{None, filter, map, slice_get, slice_index, if◌then◌else◌}
use Rattle.std.specs.Map.{lookup}
use Rattle.nz_base.specs.Cluster.{replica_count, leader_of}
use Rattle.nz_base.specs.Key.{id_eq, id_of}
use Rattle.nz_base.specs.declared.actor.Actor.{Actor}
use Rattle.nz_base.specs.declared.actor.Actor.TheVariants.{Replica, Proxy, Client}
use Rattle.nz_base.specs.declared.key.Key.{Key}
use Rattle.nz_base.specs.declared.scenario.Request.{Request}
use Rattle.nz_base.specs.declared.limits.TheConstants.{MARGIN}
use Rattle.nz_cv.specs.Vectors.{merged_vector}
use Rattle.nz_window.specs.Samples.{bound_of}
use Rattle.nz_log.specs.Places.{place_of, digest_at}
use Rattle.nz_msg.specs.declared.message.RequestBody.{RequestBody}
use Rattle.nz_msg.specs.declared.message.TimedBody.{TimedBody}
use Rattle.nz_msg.specs.declared.message.FastReplyBody.{FastReplyBody}
use Rattle.nz_msg.specs.declared.message.SlowReplyBody.{SlowReplyBody}
use Rattle.nz_msg.specs.declared.message.AnswerBody.{AnswerBody}
use Rattle.nz_msg.specs.declared.message.LogModBody.{LogModBody}
use Rattle.nz_msg.specs.declared.message.FetchBody.{FetchBody}
use Rattle.nz_msg.specs.declared.message.FetchReplyBody.{FetchReplyBody}
use Rattle.nz_msg.specs.declared.message.SyncReportBody.{SyncReportBody}
use Rattle.nz_msg.specs.declared.message.ViewAskBody.{ViewAskBody}
use Rattle.nz_msg.specs.declared.message.ViewChangeBody.{ViewChangeBody}
use Rattle.nz_msg.specs.declared.message.StartViewBody.{StartViewBody}
use Rattle.nz_msg.specs.declared.message.VectorAskBody.{VectorAskBody}
use Rattle.nz_msg.specs.declared.message.VectorTellBody.{VectorTellBody}
use Rattle.nz_msg.specs.declared.message.RejoinAskBody.{RejoinAskBody}
use Rattle.nz_msg.specs.declared.message.RejoinTellBody.{RejoinTellBody}
use Rattle.nz_msg.specs.declared.message.StateAskBody.{StateAskBody}
use Rattle.nz_msg.specs.declared.message.StateTellBody.{StateTellBody}
use Rattle.nz_msg.specs.declared.message.Message.{Message}
use Rattle.nz_msg.specs.declared.message.Message.TheVariants as messages
use Rattle.nz_machine.specs.declared.data.Origin.{Origin}
use Rattle.nz_machine.specs.declared.data.Phase.TheVariants as phases
use Rattle.nz_machine.specs.declared.reply.Reply.{Reply}
use Rattle.nz_machine.specs.rules.LogMods.{log_mod_from}
use Rattle.nz_machine.specs.rules.State.{ReplicaData, ProxyData, ClientData, State, Open, Decided, Group}
use Rattle.nz_machine.specs.rules.Replicas.{is_normal, is_changing, is_up, is_rejoining, leads}
use Rattle.nz_machine.specs.rules.LogMods.{is_held, is_asked}
use Rattle.nz_machine.specs.rules.Rejoining.{is_phase}
use Rattle.nz_machine.specs.rules.Proxies.{standing_of}
use Rattle.nz_machine.specs.rules.Step.{script_of}
use Rattle.nz_machine.specs.runs.World.{Has}
use Rattle.nz_machine.specs.runs.Events.{id_at}
use Rattle.nz_machine.specs.runs.Hearing.{Heard}

-- ---- a replica: what it hears in the record, its state before, and its state s after

-- Another replica of the cluster.
pub record IsOther (f me : ℕ) (to : Actor) : Type 0 where
  pub replica : ℕ
  pub is : to ≡ Replica replica
  pub member : replica < replica_count f
  pub other : (replica == me) ≡ false

-- The keys are the last ones of a list.
pub record IsRest (rest keys : List Key) : Type 0 where
  pub earlier : List Key
  pub whole : keys ≡ earlier ++ rest

-- A fast reply is of a view in which the replica was in normal operation before, and of a place of its log. After
-- the record, which may have entered a later view, the replica is up, and this is its last view. The leader of the
-- view is in it still, and replies with its answer.
pub record ShowsFast (f me : ℕ) (before s : ReplicaData) (to : Actor) (b : FastReplyBody) : Type 0 where
  pub normal : is_normal before.status ≡ true
  pub view : b.view ≡ before.view
  pub up : is_up s.status ≡ true
  pub last : s.last ≡ before.view
  pub vector : b.vector ≡ s.vector
  pub place : ℕ
  pub place_is : place_of s.log.entries b.id ≡ Some place
  pub digest : b.digest ≡ digest_at s.log.entries place
  pub led : leads f me before ≡ true → (is_normal s.status ≡ true) × (s.view ≡ before.view)
  pub answer : b.answer ≡ (if leads f me before then slice_get s.results place else None)
  pub origin : Origin
  pub known : lookup (id_eq b.id) s.origin ≡ Some origin
  pub delay : b.delay ≡ origin.delay
  pub receiver : to ≡ Proxy origin.proxy

-- A slow reply is a follower's, of a synced place.
pub record ShowsSlow (f me : ℕ) (s : ReplicaData) (to : Actor) (b : SlowReplyBody) : Type 0 where
  pub normal : is_normal s.status ≡ true
  pub follows : leads f me s ≡ false
  pub place : ℕ
  pub place_is : place_of s.log.entries b.id ≡ Some place
  pub synced : place < s.log.synced
  pub origin : Origin
  pub known : lookup (id_eq b.id) s.origin ≡ Some origin
  pub receiver : to ≡ Proxy origin.proxy
  pub read : b ≡ record { view = s.view; id = b.id; delay = origin.delay }

-- A log modification has the keys of the leader's log, from where the receiver's agrees with it.
pub record ShowsLogMod (f me : ℕ) (s : ReplicaData) (to : Actor) (b : LogModBody) : Type 0 where
  pub normal : is_normal s.status ≡ true
  pub led : leads f me s ≡ true
  pub receiver : IsOther f me to
  pub read : b ≡ log_mod_from s (slice_index s.ack receiver.replica)

-- A fetch asks the leader for ids that the follower does not hold, some of those that the leader named.
pub record ShowsFetch (f me : ℕ) (heard : Heard) (s : ReplicaData) (to : Actor) (b : FetchBody) : Type 0 where
  pub normal : is_normal s.status ≡ true
  pub follows : leads f me s ≡ false
  pub receiver : IsOther f me to
  pub to_leader : to ≡ Replica (leader_of f s.view)
  pub view : b.view ≡ s.view
  pub log_mod : LogModBody
  pub hears : heard ≡ Some (Replica (leader_of f s.view), messages.LogMod log_mod)
  pub keys : List Key
  pub rest : IsRest keys log_mod.keys
  pub read : b.ids ≡ filter (λ id. not (is_held s id)) (map id_of keys)
  pub some : 1 ≤ length b.ids

-- A reply to a fetch has the entries of the leader's log that were asked for, for the replica that asked.
pub record ShowsFetchReply (f me : ℕ) (heard : Heard) (s : ReplicaData) (to : Actor) (b : FetchReplyBody) : Type 0 where
  pub normal : is_normal s.status ≡ true
  pub led : leads f me s ≡ true
  pub view : b.view ≡ s.view
  pub asker : ℕ
  pub ask : FetchBody
  pub hears : heard ≡ Some (Replica asker, messages.Fetch ask)
  pub receiver : to ≡ Replica asker
  pub read : b.entries ≡ filter (is_asked ask.ids) s.log.entries

-- A sync report says how far the follower's log is synced.
pub record ShowsReport (f me : ℕ) (s : ReplicaData) (to : Actor) (b : SyncReportBody) : Type 0 where
  pub normal : is_normal s.status ≡ true
  pub follows : leads f me s ≡ false
  pub receiver : IsOther f me to
  pub to_leader : to ≡ Replica (leader_of f s.view)
  pub read : b ≡ record { view = s.view; synced = s.log.synced }

-- ---- views

-- A view-ask names the view that the replica is in after the record: it has entered it, or has begun it by now.
pub record ShowsViewAsk (f me : ℕ) (s : ReplicaData) (to : Actor) (b : ViewAskBody) : Type 0 where
  pub up : is_up s.status ≡ true
  pub receiver : IsOther f me to
  pub view : b.view ≡ s.view

-- A view change is the state of a replica in a view change, for the view's leader.
pub record ShowsViewChange (f me : ℕ) (s : ReplicaData) (to : Actor) (b : ViewChangeBody) : Type 0 where
  pub changing : is_changing s.status ≡ true
  pub follows : leads f me s ≡ false
  pub receiver : IsOther f me to
  pub to_leader : to ≡ Replica (leader_of f s.view)
  pub read : b ≡ record { view = s.view; last = s.last; vector = s.vector; synced = s.log.synced; commit = s.commit; entries = s.log.entries }

-- A start-view is the state of the view's leader.
pub record ShowsStartView (f me : ℕ) (s : ReplicaData) (to : Actor) (b : StartViewBody) : Type 0 where
  pub normal : is_normal s.status ≡ true
  pub led : leads f me s ≡ true
  pub receiver : IsOther f me to
  pub read : b ≡ record { view = s.view; vector = s.vector; commit = s.commit; entries = s.log.entries }

-- ---- rejoins

-- An ask is of its phase.
pub record ShowsVectorAsk (f me : ℕ) (s : ReplicaData) (to : Actor) (b : VectorAskBody) : Type 0 where
  pub rejoining : is_rejoining s.status ≡ true
  pub in_phase : is_phase s.rejoin.phase phases.Vectors ≡ true
  pub receiver : IsOther f me to
  pub read : b ≡ record { nonce = s.rejoin.nonce }

-- A rejoin-ask: the replica rejoins, in the second phase, with its nonce and its vector.
pub record ShowsRejoinAsk (f me : ℕ) (s : ReplicaData) (to : Actor) (b : RejoinAskBody) : Type 0 where
  pub rejoining : is_rejoining s.status ≡ true
  pub in_phase : is_phase s.rejoin.phase phases.Views ≡ true
  pub receiver : IsOther f me to
  pub read : b ≡ record { nonce = s.rejoin.nonce; vector = s.vector }

-- A state-ask: the replica rejoins, in the third phase, and asks the leader of the view that it wants.
pub record ShowsStateAsk (f me : ℕ) (s : ReplicaData) (to : Actor) (b : StateAskBody) : Type 0 where
  pub rejoining : is_rejoining s.status ≡ true
  pub in_phase : is_phase s.rejoin.phase phases.Log ≡ true
  pub receiver : IsOther f me to
  pub to_leader : to ≡ Replica (leader_of f s.rejoin.wanted)
  pub read : b ≡ record { nonce = s.rejoin.nonce; view = s.rejoin.wanted; vector = s.vector }

-- A tell answers an ask that its record delivers, from its receiver and with its nonce.
pub record ShowsVectorTell (f me : ℕ) (heard : Heard) (s : ReplicaData) (to : Actor) (b : VectorTellBody) : Type 0 where
  pub normal : is_normal s.status ≡ true
  pub asker : ℕ
  pub ask : VectorAskBody
  pub hears : heard ≡ Some (Replica asker, messages.VectorAsk ask)
  pub receiver : to ≡ Replica asker
  pub read : b ≡ record { nonce = ask.nonce; vector = s.vector }

-- Of these two the vector of the ask is merged first.
pub record ShowsRejoinTell (f me : ℕ) (heard : Heard) (before s : ReplicaData) (to : Actor) (b : RejoinTellBody) : Type 0 where
  pub normal : is_normal s.status ≡ true
  pub asker : ℕ
  pub ask : RejoinAskBody
  pub hears : heard ≡ Some (Replica asker, messages.RejoinAsk ask)
  pub receiver : to ≡ Replica asker
  pub taken : s.vector ≡ merged_vector before.vector ask.vector me
  pub read : b ≡ record { nonce = ask.nonce; view = s.view; vector = s.vector }

-- A state-tell: the leader of its view answers the state-ask that it just heard, with its commit and log.
pub record ShowsStateTell (f me : ℕ) (heard : Heard) (before s : ReplicaData) (to : Actor) (b : StateTellBody) : Type 0 where
  pub normal : is_normal s.status ≡ true
  pub led : leads f me s ≡ true
  pub asker : ℕ
  pub ask : StateAskBody
  pub hears : heard ≡ Some (Replica asker, messages.StateAsk ask)
  pub receiver : to ≡ Replica asker
  pub later : ask.view ≤ s.view
  pub taken : s.vector ≡ merged_vector before.vector ask.vector me
  pub read : b ≡ record { nonce = ask.nonce; view = s.view; vector = s.vector; commit = s.commit; entries = s.log.entries }

-- ---- all kinds of a replica

-- A replica sends no others.
abbrev pub ReplicaShows : ℕ → ℕ → Heard → ReplicaData → ReplicaData → Actor → Message → Type 0
ReplicaShows f me heard before s to (messages.FastReply b) = ShowsFast f me before s to b
ReplicaShows f me heard before s to (messages.SlowReply b) = ShowsSlow f me s to b
ReplicaShows f me heard before s to (messages.LogMod b) = ShowsLogMod f me s to b
ReplicaShows f me heard before s to (messages.Fetch b) = ShowsFetch f me heard s to b
ReplicaShows f me heard before s to (messages.FetchReply b) = ShowsFetchReply f me heard s to b
ReplicaShows f me heard before s to (messages.SyncReport b) = ShowsReport f me s to b
ReplicaShows f me heard before s to (messages.ViewAsk b) = ShowsViewAsk f me s to b
ReplicaShows f me heard before s to (messages.ViewChange b) = ShowsViewChange f me s to b
ReplicaShows f me heard before s to (messages.StartView b) = ShowsStartView f me s to b
ReplicaShows f me heard before s to (messages.VectorAsk b) = ShowsVectorAsk f me s to b
ReplicaShows f me heard before s to (messages.VectorTell b) = ShowsVectorTell f me heard s to b
ReplicaShows f me heard before s to (messages.RejoinAsk b) = ShowsRejoinAsk f me s to b
ReplicaShows f me heard before s to (messages.RejoinTell b) = ShowsRejoinTell f me heard before s to b
ReplicaShows f me heard before s to (messages.StateAsk b) = ShowsStateAsk f me s to b
ReplicaShows f me heard before s to (messages.StateTell b) = ShowsStateTell f me heard before s to b
ReplicaShows f me heard before s to _ = ⊥

-- ---- a proxy: what it hears in the record, and its state s after

-- A timed message is the client's request that was heard, stamped by the proxy's clock, for a replica of the cluster.
-- The request is open.
pub record ShowsTimed (f : ℕ) (heard : Heard) (s : ProxyData) (to : Actor) (b : TimedBody) : Type 0 where
  pub up : s.is_down ≡ false
  pub hears : heard ≡ Some (Client b.id.client, messages.Request (record { num = b.id.num; command = b.command }))
  pub replies : List Reply
  pub standing : standing_of s b.id ≡ Some (Open replies)
  pub replica : ℕ
  pub member : replica < replica_count f
  pub receiver : to ≡ Replica replica
  pub sent : b.sent ≡ s.clock
  pub deadline : b.deadline ≡ s.clock + bound_of s.samples + MARGIN

-- An answer is what the proxy decided.
pub record ShowsAnswer (s : ProxyData) (to : Actor) (b : AnswerBody) : Type 0 where
  pub up : s.is_down ≡ false
  pub client : ℕ
  pub decided : standing_of s (id_at client b.num) ≡ Some (Decided b.answer b.path)
  pub to_client : to ≡ Client client

-- What a proxy's message shows, by its kind.
abbrev pub ProxyShows : ℕ → Heard → ProxyData → Actor → Message → Type 0
ProxyShows f heard s to (messages.Timed b) = ShowsTimed f heard s to b
ProxyShows f heard s to (messages.Answer b) = ShowsAnswer s to b
ProxyShows f heard s to _ = ⊥

-- ---- a client: its state s after the record

-- A request is an open one, of its script, sent just now to one of the proxies.
pub record ShowsRequest (proxies : ℕ) (script : List Request) (s : ClientData) (to : Actor) (b : RequestBody) : Type 0 where
  pub proxy : ℕ
  pub member : proxy < proxies
  pub receiver : to ≡ Proxy proxy
  pub attempt : Has s.attempts (record { num = b.num; proxy = proxy; since = 0 })
  pub request : Request
  pub own : slice_get script (b.num - 1) ≡ Some request
  pub command : b.command ≡ request.command

-- What a client's message shows: only requests are sent.
abbrev pub ClientShows : ℕ → List Request → ClientData → Actor → Message → Type 0
ClientShows proxies script s to (messages.Request b) = ShowsRequest proxies script s to b
ClientShows proxies script s to _ = ⊥

-- ---- any actor

-- What a message to an actor shows of its sender: of what the sender hears in the record, and of its states before
-- and after.
abbrev pub Shows : Group → (a : Actor) → Heard → State a → State a → Actor → Message → Type 0
Shows g (Replica r) heard before s to m = ReplicaShows g.f r heard before s to m
Shows g (Proxy p) heard before s to m = ProxyShows g.f heard s to m
Shows g (Client c) heard before s to m = ClientShows g.proxies (script_of g c) s to m
