-- What the state of a replica always has, and what the code keeps beside it.
use Rattle.std.specs.Prelude.{◌≡◌, ◌<◌, ◌≤◌, ◌^◌, ℕ, ◌==◌, List, [], ◌++◌, length, map, IsTrue, IsFalse}
use Rattle.std.specs.List.{AllByRecursion}
use Rattle.nz_base.specs.Cluster.{replica_count, leader_of}
use Rattle.nz_base.specs.Log.{keys_of, AreRising, HaveOwnIds, IsLog}
use Rattle.nz_base.specs.declared.key.Id.{Id}
use Rattle.nz_base.specs.declared.key.Entry.{Entry}
use Rattle.nz_base.specs.declared.limits.TheConstants.{MAX_ENTRIES, MAX_VIEW, MAX_CLOCK, MAX_DELAY, MAX_PROXY, VIEW_TIMEOUT_TICKS, REJOIN_ASK_TICKS}
use Rattle.nz_math.specs.Count.{AreDistinct}
use Rattle.nz_merge.specs.Sender.{HaveOwnSenders}
use Rattle.nz_store.specs.Entries.{Entries}
use Rattle.nz_store.specs.declared.command.Answer.{Answer}
use Rattle.nz_store.specs.Sequence.{store_after, replies}
use Rattle.nz_log.specs.Synced.{Log, IsSound}
use Rattle.nz_msg.specs.Fields.{key, command, answer}
use Rattle.nz_machine.specs.declared.data.Origin.{Origin}
use Rattle.nz_machine.specs.declared.data.Status.{Status}
use Rattle.nz_machine.specs.declared.data.CollectedReport.{CollectedReport}
use Rattle.nz_machine.specs.declared.data.ToldView.{ToldView}
use Rattle.nz_machine.specs.declared.data.Rejoin.{Rejoin}
use Rattle.nz_machine.specs.rules.State.{ReplicaData}
use Rattle.nz_machine.specs.rules.Replicas.{is_normal, is_up, is_rejoining, leads, commands}

-- An entry that a frame can carry.
pub record FitsEntry (e : Entry) : Type 0 where
  pub key : key.fits e.key
  pub command : command.fits e.command

-- A request came from a proxy that frames can name, some time ago.
pub record IsKnown (o : Id × Origin) : Type 0 where
  pub proxy : o.1.proxy ≤ MAX_PROXY
  pub delay : o.1.delay ≤ MAX_DELAY

-- A counter for each replica of the cluster, each of four bytes.
pub record AreCounters (f : ℕ) (vector : List ℕ) : Type 0 where
  pub size : length vector ≡ replica_count f
  pub small : AllByRecursion (λ n. n < 2 ^ 32) vector

-- The entries of a replica, of which each id is in one place.
pub record AreArranged (log early late : List Entry) : Type 0 where
  -- The keys of the log rise, and those of early after them.
  pub rising : AreRising (keys_of (log ++ early))
  -- No id is in two of log, early and late, nor twice in one.
  pub own_ids : HaveOwnIds (keys_of (log ++ (early ++ late)))
  pub fit : AllByRecursion FitsEntry (log ++ (early ++ late))

-- A list of entries that a frame can carry: a log with room for each of them.
pub record IsCarried (list : List Entry) : Type 0 where
  pub log : IsLog list
  pub fit : AllByRecursion FitsEntry list
  pub few : length list ≤ MAX_ENTRIES

-- A report that another replica of the cluster sent: its log has what the report calls synced and committed.
pub record FitsReport (f me : ℕ) (r : CollectedReport) : Type 0 where
  pub member : r.report.sender < replica_count f
  pub other : IsFalse (r.report.sender == me)
  pub vector : AreCounters f r.vector
  pub last : r.report.last ≤ MAX_VIEW
  pub entries : IsCarried r.report.log
  pub synced : r.report.synced ≤ length r.report.log
  pub commit : r.report.commit ≤ length r.report.log

-- A view that a replica of the cluster told.
pub record FitsTold (f : ℕ) (t : ToldView) : Type 0 where
  pub member : t.sender < replica_count f
  pub view : t.view ≤ MAX_VIEW
  pub vector : AreCounters f t.vector

-- ---- the facts, in groups over the fields that each reads

-- The clock stops where clocks end, and the counts of ticks where a timer ends.
pub record AreClocks (mode : Status) (c q w : ℕ) : Type 0 where
  pub clock : c ≤ MAX_CLOCK
  pub quiet : q ≤ VIEW_TIMEOUT_TICKS
  pub since : w < VIEW_TIMEOUT_TICKS
  pub rejoining : IsTrue (is_rejoining mode) → w < REJOIN_ASK_TICKS

-- The view stops where views end. The last view of normal operation is not after it, and in normal operation it is
-- that view.
pub record HasMode (mode : Status) (v n : ℕ) : Type 0 where
  pub view : v ≤ MAX_VIEW
  pub last : n ≤ v
  pub normal : IsTrue (is_normal mode) → n ≡ v

-- Each entry is in one place, in order, and the synced part is within the log, which has room for it.
pub record AreHeld (log : Log) (early late : List Entry) : Type 0 where
  pub arranged : AreArranged log.entries early late
  pub few : length log.entries ≤ MAX_ENTRIES
  pub within : log.synced ≤ length log.entries

-- A counter for each replica, a count reported for each, and origins that frames can name.
pub record AreTables (f : ℕ) (counters reports : List ℕ) (known : List (Id × Origin)) : Type 0 where
  pub vector : AreCounters f counters
  pub acks : length reports ≡ replica_count f
  pub few : AllByRecursion (λ n. n ≤ MAX_ENTRIES) reports
  pub origins : AllByRecursion IsKnown known

-- What a leader in normal operation has besides: its whole log agrees with itself, and is executed.
pub record HasLed (log : Log) (answers : List Answer) (reports : List ℕ) : Type 0 where
  pub synced : log.synced ≡ length log.entries
  pub results : answers ≡ replies (commands log.entries)
  pub acks : AllByRecursion (λ a. a ≤ length log.entries) reports

-- The answers fit a frame. A leader in normal operation has executed its whole log. One that is down or rejoins has
-- forgotten all: its log is empty.
pub record AreExecuted (f me : ℕ) (mode : Status) (view : ℕ) (log : Log) (results : List Answer) (reports : List ℕ) : Type 0 where
  pub answers : AllByRecursion answer.fits results
  pub led : IsTrue (is_normal mode) → IsTrue (leader_of f view == me) → HasLed log results reports
  pub forgotten : IsFalse (is_up mode) → log.entries ≡ []

-- What is collected to begin a view: reports of different replicas.
pub record AreReports (f me : ℕ) (collected : List CollectedReport) : Type 0 where
  pub each : AllByRecursion (FitsReport f me) collected
  pub own_senders : HaveOwnSenders (map (λ r. r.report) collected)

-- What is collected to rejoin: of different replicas.
pub record IsRejoin (f : ℕ) (r : Rejoin) : Type 0 where
  pub nonce : r.nonce < 2 ^ 64
  pub claim : r.claim < 2 ^ 32
  pub wanted : r.wanted ≤ MAX_VIEW
  pub tellers : AllByRecursion (λ n. n < replica_count f) r.tellers
  pub own_tellers : AreDistinct r.tellers
  pub tells : AllByRecursion (FitsTold f) r.tells
  pub own_tells : AreDistinct (map (λ t. t.sender) r.tells)

-- All that the state of every replica has, in every mode.
pub record HasFacts (f me : ℕ) (s : ReplicaData) : Type 0 where
  pub clocks : AreClocks s.status s.clock s.quiet s.since
  pub mode : HasMode s.status s.view s.last
  pub entries : AreHeld s.log s.early s.late
  pub commit : s.commit ≤ s.log.synced
  pub tables : AreTables f s.vector s.ack s.origin
  pub executed : AreExecuted f me s.status s.view s.log s.results s.ack
  pub reports : AreReports f me s.reports
  pub rejoin : IsRejoin f s.rejoin

-- What log, early and late have while keys of a log modification are taken: early keys need not be above the
-- log's.
pub record AreApart (log : Log) (early late : List Entry) : Type 0 where
  pub sound : IsSound log
  pub waiting : AreRising (keys_of early)
  pub own_ids : HaveOwnIds (keys_of (log.entries ++ (early ++ late)))
  pub fit : AllByRecursion FitsEntry (log.entries ++ (early ++ late))

-- What a contract sees of a replica: the cluster, the replica's number, and its state.
pub record ReplicaModel : Type 0 where
  pub f : ℕ
  pub me : ℕ
  pub state : ReplicaData

-- What the code keeps: the facts, and the store after the leader's log.
pub record IsKeptReplica (f me : ℕ) (s : ReplicaData) (kept : Entries) : Type 0 where
  pub member : me < replica_count f
  pub facts : HasFacts f me s
  pub store : IsTrue (is_normal s.status) → IsTrue (leads f me s) → kept ≡ store_after (commands s.log.entries)
