-- All that a whole rule does to the fields that views, rejoins and logs are about: its outcome, in the words of the rules.
use Rattle.std.proofs.Common.{◌≡◌, ℕ, ◌≤◌, ◌<◌, true, false, Bool, List, [], length, map, take, drop, Some}
use Rattle.nz_base.specs.Cluster.{leader_of, slow_size}
use Rattle.nz_base.specs.Log.{keys_of}
use Rattle.nz_base.specs.Prefixes.{IsPrefix, Comparable}
use Rattle.nz_base.specs.declared.key.Key.{Key}
use Rattle.nz_base.specs.declared.actor.Actor.TheVariants.{Replica}
use Rattle.nz_base.specs.declared.limits.TheConstants.{MAX_KEYS}
use Rattle.nz_log.specs.Synced.{Log, IsSound}
use Rattle.nz_merge.specs.declared.report.Report.{Report}
use Rattle.nz_merge.specs.Merged.{greatest, merged}
use Rattle.nz_msg.specs.declared.message.LogModBody.{LogModBody}
use Rattle.nz_msg.specs.declared.message.SyncReportBody.{SyncReportBody}
use Rattle.nz_msg.specs.declared.message.ViewChangeBody.{ViewChangeBody}
use Rattle.nz_msg.specs.declared.message.StartViewBody.{StartViewBody}
use Rattle.nz_msg.specs.declared.message.VectorTellBody.{VectorTellBody}
use Rattle.nz_msg.specs.declared.message.RejoinTellBody.{RejoinTellBody}
use Rattle.nz_msg.specs.declared.message.StateTellBody.{StateTellBody}
use Rattle.nz_msg.specs.declared.message.Message.{Message}
use Rattle.nz_msg.specs.declared.message.Message.TheVariants as messages
use Rattle.nz_machine.specs.declared.event.Event.{Event}
use Rattle.nz_machine.specs.declared.event.Event.TheVariants.{Crash, Restart}
use Rattle.nz_machine.specs.declared.data.Phase.TheVariants as phases
use Rattle.nz_machine.specs.declared.data.CollectedReport.{CollectedReport}
use Rattle.nz_machine.specs.rules.State.{ReplicaData}
use Rattle.nz_machine.specs.runs.Hearing.{Heard}
use Rattle.nz_machine.specs.rules.Replicas.{is_normal, is_changing, is_up, is_rejoining, is_down, leads, crashed_replica}
use Rattle.nz_machine.specs.rules.LogMods.{committed_to, with_ack, with_commit}
use Rattle.nz_machine.specs.rules.Vectors.{with_vector}
use Rattle.nz_machine.specs.rules.Views.{in_view_change}
use Rattle.nz_machine.specs.rules.Adopting.{normal_in, after_start}
use Rattle.nz_machine.specs.rules.Begins.{with_report, without_strays, with_own_report, after_begin}
use Rattle.nz_machine.specs.rules.Rejoining.{restarted_replica, is_phase, with_teller, with_new_counter, ask_views, with_tells, with_tell, latest_view, ask_log}
use Rattle.nz_machine.proofs.facts.Guards.{HearsLeader, IsFresh, MayLead, HearsStart, Awaits}

-- What the laws read of a state: the clock, what waits, origins, answers and the counts of ticks are left out.
abbrev pub law_state : ReplicaData → ReplicaData
law_state s = record s { clock = 0; results = []; early = []; late = []; origin = []; quiet = 0; since = 0 }

-- the view change of a report's view, with the report beside those that were collected before
abbrev pub collecting : ℕ → ReplicaData → List CollectedReport → ℕ → ViewChangeBody → ReplicaData
collecting me s base sender b = with_report (record (in_view_change (with_vector me s b.vector) b.view) { reports = base }) sender b

-- the view begins with what is collected
abbrev pub beginning : ℕ → ℕ → ReplicaData → ReplicaData
beginning f me s = after_begin f s (merged f (with_own_report me s)) (greatest (map (λ (c : Report). c.commit) (with_own_report me s)))

-- ---- logs

-- entries are appended; a leader has all synced, and a follower's sync point stays
pub record Appends (led : Bool) (a b : Log) : Type 0 where
  pub entries : IsPrefix a.entries b.entries
  pub leads : led ≡ true → a.synced ≡ length a.entries → b.synced ≡ length b.entries
  pub follows : led ≡ false → b.synced ≡ a.synced

-- what the keys of an earlier log of the leader make of a log
pub record Taken (early : List Key) (a b : Log) : Type 0 where
  pub synced : a.synced ≤ b.synced
  pub entries : take a.synced (keys_of a.entries) ≡ take a.synced (keys_of b.entries)
  pub part : (lead : List Key) → IsPrefix (take a.synced (keys_of a.entries)) lead → IsPrefix early lead → IsPrefix (take b.synced (keys_of b.entries)) lead
  pub prefixes : (lead : List Key) → IsPrefix (take a.synced (keys_of a.entries)) lead → IsPrefix early lead
      → (P : List Key) → IsPrefix P (keys_of a.entries) → Comparable P lead → IsPrefix P (keys_of b.entries)

-- a log modification modifies a sound log by its keys, which are those of an earlier log from its start on
pub record Modifies (b : LogModBody) (log changed : Log) : Type 0 where
  pub taken : IsSound log → (early : List Key) → b.keys ≡ take MAX_KEYS (drop b.start early) → Taken early log changed

-- the log with which a replica enters a view: as it was, or with what was released in the same record
pub data Grown (f me : ℕ) (s : ReplicaData) : Log → Type 0 where
  Same : Grown f me s s.log
  More : (log : Log) → is_normal s.status ≡ true → leads f me s ≡ false → Appends false s.log log → Grown f me s log

-- ---- what was tested

-- the reports to which one is added, at the merged vector: none in a view that is entered, else those that are not stray
pub data Base (s : ReplicaData) (view : ℕ) : List CollectedReport → Type 0 where
  Anew : s.view < view → Base s view []
  Going : s.view ≡ view → is_changing s.status ≡ true → Base s view (without_strays s).reports

-- ---- the outcomes

pub data Outcome (f me : ℕ) (e : Event) (heard : Heard) (s : ReplicaData) : ReplicaData → Type 0 where
  Stays : Outcome f me e heard s s
  -- entries are released at a tick
  Release : (log : Log) → is_normal s.status ≡ true → Appends (leads f me s) s.log log → Outcome f me e heard s (law_state (record s { log = log }))
  Merge : (sender : ℕ) (m : Message) (u : List ℕ) → IsFresh heard s sender m u → is_normal s.status ≡ true
      → Outcome f me e heard s (law_state (with_vector me s u))
  -- a log modification is taken
  Sync : (sender : ℕ) (b : LogModBody) → IsFresh heard s sender (messages.LogMod b) b.vector → HearsLeader f me s.status s.view sender b.view
      → b.start ≤ s.log.synced
      → (log : Log) → Modifies b s.log log → Outcome f me e heard s (law_state (committed_to (record (with_vector me s b.vector) { log = log }) b.commit))
  -- a leader counts a sync report of its view
  Tally : (sender : ℕ) (b : SyncReportBody) → heard ≡ Some (Replica sender, messages.SyncReport b) → is_normal s.status ≡ true
      → leads f me s ≡ true → b.view ≡ s.view → b.synced ≤ length s.log.entries
      → Outcome f me e heard s (law_state (with_commit f me (with_ack s sender b.synced)))
  Enter : (w : ℕ) → is_up s.status ≡ true → s.view < w → (log : Log) → Grown f me s log
      → Outcome f me e heard s (law_state (record (in_view_change s w) { log = log }))
  Follow : (sender : ℕ) (m : Message) (u : List ℕ) → IsFresh heard s sender m u → (w : ℕ) → is_up s.status ≡ true → s.view < w
      → Outcome f me e heard s (law_state (in_view_change (with_vector me s u) w))
  -- a view change that comes where the view has begun
  Answer : (sender : ℕ) (b : ViewChangeBody) → IsFresh heard s sender (messages.ViewChange b) b.vector → is_normal s.status ≡ true → s.view ≡ b.view
      → Outcome f me e heard s (law_state (without_strays (with_vector me s b.vector)))
  Collect : (sender : ℕ) (b : ViewChangeBody) → IsFresh heard s sender (messages.ViewChange b) b.vector → MayLead f me s.status s.view b.view
      → (base : List CollectedReport) → Base (with_vector me s b.vector) b.view base → Outcome f me e heard s (law_state (collecting me s base sender b))
  Begin : (sender : ℕ) (b : ViewChangeBody) → IsFresh heard s sender (messages.ViewChange b) b.vector → MayLead f me s.status s.view b.view
      → (base : List CollectedReport) → Base (with_vector me s b.vector) b.view base → length (collecting me s base sender b).reports ≡ f
      → Outcome f me e heard s (law_state (beginning f me (collecting me s base sender b)))
  Start : (sender : ℕ) (b : StartViewBody) → IsFresh heard s sender (messages.StartView b) b.vector → HearsStart f s sender b.view
      → Outcome f me e heard s (law_state (after_start (with_vector me s b.vector) b))
  Fall : e ≡ Crash → Outcome f me e heard s (law_state (crashed_replica f))
  Wake : (nonce : ℕ) → e ≡ Restart nonce → is_down s.status ≡ true → Outcome f me e heard s (law_state (restarted_replica f nonce))
  HearVector : (sender : ℕ) (b : VectorTellBody) → IsFresh heard s sender (messages.VectorTell b) b.vector → Awaits phases.Vectors s b.nonce
      → Outcome f me e heard s (law_state (with_teller me (with_vector me s b.vector) sender b.vector))
  Count : (sender : ℕ) (b : VectorTellBody) → IsFresh heard s sender (messages.VectorTell b) b.vector → Awaits phases.Vectors s b.nonce
      → slow_size f ≤ length (with_teller me s sender b.vector).rejoin.tellers
      → Outcome f me e heard s (law_state (ask_views f me (with_new_counter me (with_teller me (with_vector me s b.vector) sender b.vector))).0)
  HearView : (sender : ℕ) (b : RejoinTellBody) → IsFresh heard s sender (messages.RejoinTell b) b.vector → Awaits phases.Views s b.nonce
      → Outcome f me e heard s (law_state (with_tell (with_vector me s b.vector) sender b))
  Forget : (sender : ℕ) (b : RejoinTellBody) → IsFresh heard s sender (messages.RejoinTell b) b.vector → Awaits phases.Views s b.nonce
      → Outcome f me e heard s (law_state (with_tells (with_vector me s b.vector) []))
  AskLog : (sender : ℕ) (b : RejoinTellBody) → IsFresh heard s sender (messages.RejoinTell b) b.vector → Awaits phases.Views s b.nonce
      → slow_size f ≤ length (with_tell (with_vector me s b.vector) sender b).rejoin.tells
      → Outcome f me e heard s
      (law_state (ask_log f (with_tell (with_vector me s b.vector) sender b) (latest_view (with_tell (with_vector me s b.vector) sender b))).0)
  Return : (sender : ℕ) (b : StateTellBody) → IsFresh heard s sender (messages.StateTell b) b.vector → Awaits phases.Log s b.nonce
      → s.rejoin.wanted ≤ b.view → sender ≡ leader_of f b.view
      → Outcome f me e heard s (law_state (normal_in (with_vector me s b.vector) b.view b.entries b.commit))
  Back : is_rejoining s.status ≡ true → is_phase s.rejoin.phase phases.Log ≡ true → Outcome f me e heard s (law_state (ask_views f me s).0)
