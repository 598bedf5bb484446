-- What holds of a quiet run between two ticks.
use Rattle.std.specs.Prelude.{◌≡◌, ℕ, ◌+◌, ◌*◌, ◌≤◌, ◌<◌, ◌⊎◌, false, List, [], ◌++◌, length, min, Option, Some, None}
use Rattle.std.specs.List.{AllByRecursion}
use Rattle.nz_base.specs.Cluster.{replica_count}
use Rattle.nz_base.specs.Key.{id_of}
use Rattle.nz_base.specs.Log.{keys_of, has_id}
use Rattle.nz_base.specs.declared.actor.Actor.{Actor}
use Rattle.nz_base.specs.declared.actor.Actor.TheVariants.{Replica, Proxy, Client}
use Rattle.nz_base.specs.declared.key.Id.{Id}
use Rattle.nz_base.specs.declared.key.Entry.{Entry}
use Rattle.nz_base.specs.declared.limits.TheConstants.{UNITS_PER_TICK}
use Rattle.nz_base.specs.declared.scenario.Scenario.{Scenario}
use Rattle.nz_store.specs.declared.command.Answer.{Answer}
use Rattle.nz_msg.specs.declared.message.Path.TheVariants as paths
use Rattle.nz_msg.specs.declared.message.RequestBody.{RequestBody}
use Rattle.nz_msg.specs.declared.message.TimedBody.{TimedBody}
use Rattle.nz_msg.specs.declared.message.FastReplyBody.{FastReplyBody}
use Rattle.nz_msg.specs.declared.message.SlowReplyBody.{SlowReplyBody}
use Rattle.nz_msg.specs.declared.message.AnswerBody.{AnswerBody}
use Rattle.nz_msg.specs.declared.message.LogModBody.{LogModBody}
use Rattle.nz_msg.specs.declared.message.SyncReportBody.{SyncReportBody}
use Rattle.nz_msg.specs.declared.message.Message.TheVariants as messages
use Rattle.nz_machine.specs.declared.data.Attempt.{Attempt}
use Rattle.nz_machine.specs.declared.event.Record.{Record}
use Rattle.nz_machine.specs.rules.State.{ProxyData, Standing, Open, Decided, Group, Out}
use Rattle.nz_machine.specs.rules.Proxies.{standing_of}
use Rattle.nz_machine.specs.runs.Schedule.{group_of, InOrderTo}
use Rattle.nz_machine.specs.runs.Events.{id_at}
use Rattle.nz_machine.specs.runs.World.{state_after, Has}
use Rattle.nz_quiet.specs.Requests.{own_proxy, OfScript, IsDeadline}
use Rattle.nz_quiet.specs.Folds.{heard_by, flight_in}
use Rattle.nz_quiet.specs.Replicas.{IsQuietReplica, IsGoodReply, IsFreshBody, IsLogModOf, bodies_of}

-- What a request's own proxy knows of it.
abbrev pub standing_in : Group → List Record → Id → Option Standing
standing_in g J id = standing_of (state_after g (Proxy (own_proxy g id.client)) J) id

-- A proxy all of whose delays were one tick.
pub record IsQuietProxy (g : Group) (t : ℕ) (s : ProxyData) : Type 0 where
  pub up : s.is_down ≡ false
  pub clock : s.clock ≡ UNITS_PER_TICK * t
  pub count : length s.samples ≡ replica_count g.f
  pub samples : AllByRecursion (AllByRecursion (λ delay. delay ≡ UNITS_PER_TICK)) s.samples

-- ---- places

-- An entry of the log that waits for its replies.
pub record IsReleased (g : Group) (t : ℕ) (L : List Entry) (flight : List (Actor × Out)) (J : List Record) (e : Entry) : Type 0 where
  pub now : UNITS_PER_TICK * t < e.key.deadline + UNITS_PER_TICK
  pub standing : standing_in g J (id_of e.key) ≡ Some (Open [])
  pub replied : (r : ℕ) → r < replica_count g.f
      → (to : Actor) × ((b : FastReplyBody) × (Has flight (Replica r, (to, messages.FastReply b)) × (b.id ≡ id_of e.key)))

-- An entry of the log that is decided. Where that was in this tick, the answer is on its way.
pub record IsDecided (g : Group) (t : ℕ) (flight : List (Actor × Out)) (J : List Record) (e : Entry) : Type 0 where
  pub past : e.key.deadline + UNITS_PER_TICK ≤ UNITS_PER_TICK * t
  pub answer : Answer
  pub standing : standing_in g J (id_of e.key) ≡ Some (Decided answer paths.Fast)
  pub on_its_way : UNITS_PER_TICK * t < e.key.deadline + 2 * UNITS_PER_TICK
      → Has flight (Proxy (own_proxy g e.key.client), (Client e.key.client, messages.Answer (record { num = e.key.num; answer = answer; path = paths.Fast })))

-- An entry that waits in early.
pub record IsWaiting (g : Group) (t : ℕ) (J : List Record) (e : Entry) : Type 0 where
  pub later : UNITS_PER_TICK * t < e.key.deadline
  pub standing : standing_in g J (id_of e.key) ≡ Some (Open [])

-- An open attempt, by how long it waits.
pub data HasPlace (g : Group) (t : ℕ) (L E : List Entry) (flight : List (Actor × Out)) (J : List Record) (c : ℕ) (a : Attempt) : Type 0 where
  Asked : a.since ≡ 0 → (command : List ℕ)
      → Has flight (Client c, (Proxy (own_proxy g c), messages.Request (record { num = a.num; command = command })))
      → standing_in g J (id_at c a.num) ≡ None → has_id (keys_of L) (id_at c a.num) ≡ false → has_id (keys_of E) (id_at c a.num) ≡ false
      → HasPlace g t L E flight J c a
  Stamped : a.since ≡ 1
      → ((r : ℕ) → r < replica_count g.f
      → (b : TimedBody) × (Has flight (Proxy (own_proxy g c), (Replica r, messages.Timed b)) × (b.id ≡ id_at c a.num)))
      → HasPlace g t L E flight J c a
  Entered : 2 ≤ a.since → (e : Entry) → Has E e ⊎ Has L e → id_of e.key ≡ id_at c a.num → IsDeadline t a.since e.key.deadline
      → UNITS_PER_TICK * t < e.key.deadline + 2 * UNITS_PER_TICK → HasPlace g t L E flight J c a

-- ---- in flight

-- What is in flight, by its kind.
pub data MayFly (g : Group) (t : ℕ) (L E : List Entry) (J : List Record) : Actor → Out → Type 0 where
  FliesRequest : (c : ℕ) (b : RequestBody) → c < length g.scripts
      → Has (state_after g (Client c) J).attempts (record { num = b.num; proxy = own_proxy g c; since = 0 })
      → MayFly g t L E J (Client c) (Proxy (own_proxy g c), messages.Request b)
  FliesTimed : (p r : ℕ) (b : TimedBody) → IsFreshBody g t L E p b → IsDeadline t 1 b.deadline → standing_in g J b.id ≡ Some (Open [])
      → MayFly g t L E J (Proxy p) (Replica r, messages.Timed b)
  FliesFast : (r : ℕ) (to : Actor) (b : FastReplyBody) → IsGoodReply g t L r to b → MayFly g t L E J (Replica r) (to, messages.FastReply b)
  FliesSlow : (r p : ℕ) (b : SlowReplyBody) (a : Answer) → b.delay ≡ UNITS_PER_TICK
      → standing_of (state_after g (Proxy p) J) b.id ≡ Some (Decided a paths.Fast) → MayFly g t L E J (Replica r) (Proxy p, messages.SlowReply b)
  FliesAnswer : (p c : ℕ) (b : AnswerBody) (e : Entry) → b.path ≡ paths.Fast → Has L e → id_of e.key ≡ id_at c b.num
      → e.key.deadline + UNITS_PER_TICK ≤ UNITS_PER_TICK * t → UNITS_PER_TICK * t < e.key.deadline + 2 * UNITS_PER_TICK
      → MayFly g t L E J (Proxy p) (Client c, messages.Answer b)
  FliesLogMod : (r : ℕ) (b : LogModBody) → 1 ≤ r → IsLogModOf g L b → MayFly g t L E J (Replica 0) (Replica r, messages.LogMod b)
  FliesReport : (r : ℕ) (b : SyncReportBody) → 1 ≤ r → MayFly g t L E J (Replica r) (Replica 0, messages.SyncReport b)

-- ---- all of it

-- Between tick t and the next, with this log and these early entries everywhere, and this in flight.
pub record IsQuietAt (g : Group) (t : ℕ) (L E : List Entry) (flight : List (Actor × Out)) (J : List Record) : Type 0 where
  pub replicas : (r : ℕ) → r < replica_count g.f → IsQuietReplica g t L E (state_after g (Replica r) J)
  pub quiet : (r : ℕ) → r < replica_count g.f → (state_after g (Replica r) J).quiet ≤ min t 1
  pub proxies : (p : ℕ) → p < g.proxies → IsQuietProxy g t (state_after g (Proxy p) J)
  pub ticks : (c : ℕ) → c < length g.scripts → (state_after g (Client c) J).ticks ≡ t
  pub log : AllByRecursion (λ e. IsReleased g t L flight J e ⊎ IsDecided g t flight J e) L
  pub past : AllByRecursion (λ e. e.key.deadline ≤ UNITS_PER_TICK * t) L
  pub early : AllByRecursion (IsWaiting g t J) E
  pub ours : AllByRecursion (OfScript g.scripts) (L ++ E)
  pub attempts : (c : ℕ) → c < length g.scripts → AllByRecursion (HasPlace g t L E flight J c) (state_after g (Client c) J).attempts
  pub flies : AllByRecursion (λ x. MayFly g t L E J x.0 x.1) flight
  pub log_mods : 1 ≤ t → (r : ℕ) → 1 ≤ r → r < replica_count g.f → (b : LogModBody) × Has flight (Replica 0, (Replica r, messages.LogMod b))
  pub same_bodies : (r q : ℕ) → r < replica_count g.f → q < replica_count g.f
      → bodies_of (heard_by (Replica r) flight) ≡ bodies_of (heard_by (Replica q) flight)
  pub known : (c num : ℕ) → c < length g.scripts → (state_after g (Client c) J).sent < num → standing_in g J (id_at c num) ≡ None

-- The run of a scenario is quiet after the tick t, with some log and some early entries everywhere.
pub record IsQuietRun (s : Scenario) (t : ℕ) (J : List Record) (order : InOrderTo s t J) : Type 0 where
  pub log : List Entry
  pub early : List Entry
  pub quiet : IsQuietAt (group_of s) t log early (flight_in s t J order) J
