-- The replicas of a quiet run: their states, what they hear and what they send.
use Rattle.std.specs.Prelude.{◌≡◌, ◌⊎◌, ◌-◌, ◌+◌, ◌*◌, ◌<◌, replicate, length, take, drop, ℕ, suc, ◌≤◌, true, false, List, [], ◌∷◌, ◌++◌, ◌==◌, if◌then◌else◌}
use Rattle.std.specs.Prelude.{Some, None, slice_get}
use Rattle.std.specs.List.{AllByRecursion}
use Rattle.std.specs.Map.{lookup}
use Rattle.nz_base.specs.Cluster.{replica_count}
use Rattle.nz_base.specs.Key.{id_eq, id_of}
use Rattle.nz_base.specs.Log.{keys_of, has_id, AreRising, HaveOwnIds}
use Rattle.nz_base.specs.Prefixes.{IsPrefix}
use Rattle.nz_base.specs.declared.actor.Actor.{Actor}
use Rattle.nz_base.specs.declared.actor.Actor.TheVariants.{Replica, Proxy}
use Rattle.nz_base.specs.declared.key.Key.{Key}
use Rattle.nz_base.specs.declared.key.Id.{Id}
use Rattle.nz_base.specs.declared.key.Entry.{Entry}
use Rattle.nz_base.specs.declared.limits.TheConstants.{UNITS_PER_TICK, MAX_KEYS, MAX_REQUESTS, MAX_TICKS}
use Rattle.nz_store.specs.Sequence.{replies}
use Rattle.nz_msg.specs.declared.message.TimedBody.{TimedBody}
use Rattle.nz_msg.specs.declared.message.FastReplyBody.{FastReplyBody}
use Rattle.nz_msg.specs.declared.message.SlowReplyBody.{SlowReplyBody}
use Rattle.nz_msg.specs.declared.message.LogModBody.{LogModBody}
use Rattle.nz_msg.specs.declared.message.SyncReportBody.{SyncReportBody}
use Rattle.nz_msg.specs.declared.message.Message.{Message}
use Rattle.nz_msg.specs.declared.message.Message.TheVariants as messages
use Rattle.nz_log.specs.Places.{place_of, digest_at}
use Rattle.nz_log.specs.Synced.{Log, unsynced_part}
use Rattle.nz_buffers.specs.Buffers.{is_due, released, held_back, insert_by_key}
use Rattle.nz_machine.specs.declared.data.Origin.{Origin}
use Rattle.nz_machine.specs.rules.State.{ReplicaData, Group, Out}
use Rattle.nz_machine.specs.runs.World.{Has}
use Rattle.nz_machine.specs.rules.Facts.{HasFacts}
use Rattle.nz_machine.specs.rules.Replicas.{is_normal, leads, commands}
use Rattle.nz_machine.specs.rules.Requests.{entry_at}
use Rattle.nz_machine.specs.rules.LogMods.{sync_report_to, replies_since}
use Rattle.nz_quiet.specs.Folds.{IsReadable}
use Rattle.nz_quiet.specs.Requests.{own_proxy, HasRequest, OfScript}

-- ---- states

-- The request came from its client's own proxy, one tick ago.
pub record IsOwnOrigin (g : Group) (o : Id × Origin) : Type 0 where
  pub proxy : o.1.proxy ≡ own_proxy g o.0.client
  pub delay : o.1.delay ≡ UNITS_PER_TICK

-- The replica knows where the entry came from.
pub record IsKnown (s : ReplicaData) (e : Entry) : Type 0 where
  pub origin : Origin
  pub known : lookup (id_eq (id_of e.key)) s.origin ≡ Some origin

-- A replica with this log and these early entries, in a tick of this number.
pub record IsQuietReplica (g : Group) (t : ℕ) (L E : List Entry) (s : ReplicaData) : Type 0 where
  pub normal : is_normal s.status ≡ true
  pub view : s.view ≡ 0
  pub vector : s.vector ≡ replicate (replica_count g.f) 0
  pub clock : s.clock ≡ UNITS_PER_TICK * t
  pub log : s.log.entries ≡ L
  pub early : s.early ≡ E
  pub none_late : s.late ≡ []
  pub origins : AllByRecursion (IsOwnOrigin g) s.origin
  pub known : AllByRecursion (IsKnown s) E

-- ---- what it hears

-- A timed message of the last tick, for a request that is new here, and not yet due.
pub record IsFreshBody (g : Group) (t : ℕ) (L E : List Entry) (p : ℕ) (b : TimedBody) : Type 0 where
  pub proxy : p ≡ own_proxy g b.id.client
  pub sent : b.sent ≡ UNITS_PER_TICK * t
  pub later : UNITS_PER_TICK * (t + 1) < b.deadline
  pub asked : HasRequest g.scripts b.id.client b.id.num
  pub not_in_log : has_id (keys_of L) b.id ≡ false
  pub not_early : has_id (keys_of E) b.id ≡ false

-- A log modification of the first view, of no crash, with keys of this log.
pub record IsLogModOf (g : Group) (L : List Entry) (b : LogModBody) : Type 0 where
  pub view : b.view ≡ 0
  pub vector : b.vector ≡ replicate (replica_count g.f) 0
  pub keys : b.keys ≡ take MAX_KEYS (drop b.start (keys_of L))

-- What a replica may hear in the tick after this one, by its kind.
pub data ReplicaHears (g : Group) (t r : ℕ) (L E : List Entry) : Actor → Message → Type 0 where
  HearsTimed : (p : ℕ) (b : TimedBody) → IsFreshBody g t L E p b → ReplicaHears g t r L E (Proxy p) (messages.Timed b)
  HearsLogMod : (b : LogModBody) → 1 ≤ r → IsLogModOf g L b → ReplicaHears g t r L E (Replica 0) (messages.LogMod b)
  HearsReport : (q : ℕ) (b : SyncReportBody) → ReplicaHears g t r L E (Replica q) (messages.SyncReport b)

-- The timed messages among some messages.
abbrev pub bodies_of : List (Actor × Message) → List TimedBody
bodies_of [] = []
bodies_of ((from, messages.Timed b) ∷ hs) = b ∷ bodies_of hs
bodies_of (_ ∷ hs) = bodies_of hs

-- The early entries with one more request, unless they have its id.
abbrev pub with_body : List Entry → TimedBody → List Entry
with_body E b = if has_id (keys_of E) b.id then E else insert_by_key E (entry_at b.deadline b)

-- The early entries with more requests, one after the other.
abbrev pub with_bodies : List Entry → List TimedBody → List Entry
with_bodies E [] = E
with_bodies E (b ∷ bs) = with_bodies (with_body E b) bs

-- ---- what it sends

-- The fast reply of a replica to an entry that was released in this tick.
pub record IsGoodReply (g : Group) (t : ℕ) (L : List Entry) (r : ℕ) (to : Actor) (b : FastReplyBody) : Type 0 where
  pub entry : Entry
  pub among : Has L entry
  pub id : b.id ≡ id_of entry.key
  pub now : UNITS_PER_TICK * t < entry.key.deadline + UNITS_PER_TICK
  pub to_proxy : to ≡ Proxy (own_proxy g b.id.client)
  pub view : b.view ≡ 0
  pub vector : b.vector ≡ replicate (replica_count g.f) 0
  pub delay : b.delay ≡ UNITS_PER_TICK
  pub place : ℕ
  pub place_is : place_of L b.id ≡ Some place
  pub digest : b.digest ≡ digest_at L place
  pub answer : b.answer ≡ (if r == 0 then slice_get (replies (commands L)) place else None)

-- What a replica sends at its clock, with this log after it.
pub data TickSends (g : Group) (t r : ℕ) (L : List Entry) : Actor → Message → Type 0 where
  SendsFast : (to : Actor) (b : FastReplyBody) → IsGoodReply g t L r to b → TickSends g t r L to (messages.FastReply b)
  SendsLogMod : (q : ℕ) (b : LogModBody) → r ≡ 0 → 1 ≤ q → IsLogModOf g L b → TickSends g t r L (Replica q) (messages.LogMod b)

-- What it sends on messages, where this is the log of the tick before.
pub data HearingSends (g : Group) (r : ℕ) (L : List Entry) : Actor → Message → Type 0 where
  SendsSlow : (b : SlowReplyBody) → b.view ≡ 0 → b.delay ≡ UNITS_PER_TICK → has_id (keys_of L) b.id ≡ true
      → HearingSends g r L (Proxy (own_proxy g b.id.client)) (messages.SlowReply b)
  SendsReport : (b : SyncReportBody) → 1 ≤ r → HearingSends g r L (Replica 0) (messages.SyncReport b)

-- ---- the replies of a tick

-- A fast reply for the id goes to the proxy.
pub record IsRepliedTo (sends : List Out) (proxy : ℕ) (id : Id) : Type 0 where
  pub body : FastReplyBody
  pub among : Has sends (Proxy proxy, messages.FastReply body)
  pub is : body.id ≡ id

-- What is sent is a fast reply for one of these entries that is due.
pub record IsReplyOf (es : List Entry) (clock : ℕ) (o : Out) : Type 0 where
  pub entry : Entry
  pub among : Has es entry
  pub due : is_due clock entry ≡ true
  pub body : FastReplyBody
  pub is : o.1 ≡ messages.FastReply body
  pub of_it : body.id ≡ id_of entry.key

-- What is known of a replica before its clock: it is quiet, its early entries are not yet due, and there are few.
pub record MayTick (g : Group) (t r : ℕ) (L E : List Entry) (s : ReplicaData) : Type 0 where
  pub replica : IsQuietReplica g t L E s
  pub facts : HasFacts g.f r s
  pub quiet : s.quiet ≤ 1
  pub later : AllByRecursion (λ e. UNITS_PER_TICK * t < e.key.deadline) E
  pub few : length L + length E ≤ MAX_REQUESTS
  pub ticks : suc t ≤ MAX_TICKS

-- What a replica is after its clock, and what it sends: what is due goes to the log, and each entry of it is replied to.
-- The leader sends a log modification to each other.
pub record IsTicked (g : Group) (t r : ℕ) (L E : List Entry) (before after : ReplicaData) (outs : List Out) : Type 0 where
  pub state : IsQuietReplica g (suc t) (L ++ released E (UNITS_PER_TICK * suc t)) (held_back E (UNITS_PER_TICK * suc t)) after
  pub quiet : after.quiet ≤ before.quiet + 1
  pub calm : r ≡ 0 → after.quiet ≤ before.quiet
  pub synced : 1 ≤ r → after.log.synced ≡ before.log.synced
  pub sends : AllByRecursion (λ o. TickSends g (suc t) r (L ++ released E (UNITS_PER_TICK * suc t)) o.0 o.1) outs
  pub replies : (e : Entry) → Has E e → is_due (UNITS_PER_TICK * suc t) e ≡ true → IsRepliedTo outs (own_proxy g e.key.client) (id_of e.key)
  pub log_mods : r ≡ 0 → (q : ℕ) → 1 ≤ q → q < replica_count g.f → (b : LogModBody) × Has outs (Replica q, messages.LogMod b)

-- A replica in the tick after t, after its clock and some messages: L and E were its log and early entries at t, and these
-- are its early entries now.
pub record MayHear (g : Group) (t r : ℕ) (L E now : List Entry) (s : ReplicaData) : Type 0 where
  pub replica : IsQuietReplica g (suc t) (L ++ released E (UNITS_PER_TICK * suc t)) now s
  pub facts : HasFacts g.f r s
  pub ours : AllByRecursion (OfScript g.scripts) ((L ++ released E (UNITS_PER_TICK * suc t)) ++ now)
  pub past : AllByRecursion (λ e. e.key.deadline ≤ UNITS_PER_TICK * suc t) (L ++ released E (UNITS_PER_TICK * suc t))
  pub synced : 1 ≤ r → s.log.synced ≤ length L

-- Each message is one that the replica may hear in the tick after t, and is readable.
abbrev pub AreHeard : Group → ℕ → ℕ → List Entry → List Entry → List (Actor × Message) → Type 0
AreHeard g t r L E hs = AllByRecursion (λ x. ReplicaHears g t r L E x.0 x.1 × IsReadable g.f (Replica r) (x.0, (Replica r, x.1))) hs

-- What a replica is after some messages, and what it sends: new requests go to early, a log modification ends the count of
-- quiet ticks, and slow replies are for entries of the log of the tick before.
pub record HasHeard (g : Group) (t r : ℕ) (L E now : List Entry) (before : ReplicaData) (heard : List (Actor × Message)) (after : ReplicaData)
    (outs : List Out) : Type 0 where
  pub state : MayHear g t r L E (with_bodies now (bodies_of heard)) after
  pub quiet : after.quiet ≤ before.quiet
  pub calm : (b : LogModBody) → Has heard (Replica 0, messages.LogMod b) → after.quiet ≡ 0
  pub sends : AllByRecursion (λ o. HearingSends g r L o.0 o.1) outs

-- ---- log modifications

-- The log with another sync point.
abbrev pub with_synced : Log → ℕ → Log
with_synced log n = record { entries = log.entries; synced = n }

-- The state with another sync point.
abbrev pub synced_to : ReplicaData → ℕ → ReplicaData
synced_to s n = record s { log = with_synced s.log n }

-- Keys rise, ids in log and early are its own, and nothing is late.
pub record IsCalm (s : ReplicaData) : Type 0 where
  pub rising : AreRising (keys_of s.log.entries)
  pub own_ids : HaveOwnIds (keys_of (s.log.entries ++ s.early))
  pub none_late : s.late ≡ []

-- Nothing changes but the sync point, which rises by at most the count of the keys, and nothing is missing.
pub record IsSynced (s : ReplicaData) (keys : List Key) (t : ReplicaData × List Key) : Type 0 where
  pub count : ℕ
  pub most : count ≤ s.log.synced + length keys
  pub state : t.0 ≡ synced_to s count
  pub none_missing : t.1 ≡ []

-- A follower in normal operation in the first view, with no crash known and nothing late.
pub record IsQuietFollower (f me : ℕ) (s : ReplicaData) : Type 0 where
  pub facts : HasFacts f me s
  pub normal : is_normal s.status ≡ true
  pub view : s.view ≡ 0
  pub vector : s.vector ≡ replicate (replica_count f) 0
  pub none_late : s.late ≡ []
  pub follows : leads f me s ≡ false

-- The message is the first leader's, of no crash, and has keys of the follower's own log where they belong.
pub record IsOwnLogMod (f : ℕ) (s : ReplicaData) (b : LogModBody) : Type 0 where
  pub view : b.view ≡ 0
  pub vector : b.vector ≡ replicate (replica_count f) 0
  pub keys : b.start ≤ s.log.synced → IsPrefix (drop (s.log.synced - b.start) b.keys) (keys_of (unsynced_part s.log))

-- A log modification was taken, and nothing but the sync point, the commit and the count of quiet ticks changed.
-- The sync point does not pass the last of the keys.
pub record IsTakenCalmly (s : ReplicaData) (b : LogModBody) (t : ReplicaData × List Out) : Type 0 where
  pub count : ℕ
  pub most : (count ≤ s.log.synced) ⊎ ((b.start ≤ s.log.synced) × (count ≤ b.start + length b.keys))
  pub commit : ℕ
  pub state : t.0 ≡ record s { log = with_synced s.log count; quiet = 0; commit = commit }
  pub sends : (t.1 ≡ sync_report_to 0 t.0 ∷ []) ⊎ (t.1 ≡ replies_since t.0 s.log.synced ++ sync_report_to 0 t.0 ∷ [])
