-- All ways in which a replica's state changes, one small move each, and what a law over them has to show.
use Rattle.std.proofs.Common.{◌≡◌, ℕ, ◌+◌, ◌-◌, ◌≤◌, ◌<◌, eqb, true, false, List, [], ◌∷◌, ◌++◌, length, map, Some, ◌⊎◌}
use Rattle.std.specs.Prelude.{slice_get}
use Rattle.nz_base.specs.Cluster.{leader_of}
use Rattle.nz_base.specs.declared.actor.Actor.TheVariants.{Replica, Proxy}
use Rattle.nz_base.specs.declared.key.Entry.{Entry}
use Rattle.nz_base.specs.Key.{id_of}
use Rattle.nz_base.specs.Log.{keys_of, has_id, is_above_last}
use Rattle.nz_base.specs.declared.limits.TheConstants.{MAX_DEADLINE, MAX_ENTRIES, MAX_VIEW}
use Rattle.nz_merge.specs.Merged.{greatest, merged}
use Rattle.nz_msg.specs.declared.message.TimedBody.{TimedBody}
use Rattle.nz_msg.specs.declared.message.LogModBody.{LogModBody}
use Rattle.nz_msg.specs.declared.message.SyncReportBody.{SyncReportBody}
use Rattle.nz_msg.specs.declared.message.ViewChangeBody.{ViewChangeBody}
use Rattle.nz_msg.specs.declared.message.VectorTellBody.{VectorTellBody}
use Rattle.nz_msg.specs.declared.message.RejoinTellBody.{RejoinTellBody}
use Rattle.nz_msg.specs.declared.message.Message.{Message}
use Rattle.nz_msg.specs.declared.message.Message.TheVariants as messages
use Rattle.nz_machine.specs.rules.State.{ReplicaData}
use Rattle.nz_machine.specs.rules.Facts.{AreClocks}
use Rattle.nz_machine.specs.rules.Replicas.{is_normal, is_changing, is_up, is_rejoining}
use Rattle.nz_machine.specs.rules.Requests.{with_origin, to_early, entry_at}
use Rattle.nz_machine.specs.rules.Releases.{after_release, may_release}
use Rattle.nz_machine.specs.rules.LogMods.{entry_of_id, may_sync, synced_with, overtaken_to_late, committed_to, with_ack, with_commit}
use Rattle.nz_machine.specs.rules.Vectors.{with_vector}
use Rattle.nz_machine.specs.rules.Views.{in_view_change}
use Rattle.nz_machine.specs.rules.Adopting.{normal_in}
use Rattle.nz_machine.specs.rules.Begins.{with_own_report, with_report, without_strays, after_begin}
use Rattle.nz_machine.specs.rules.Rejoining.{last_counter, with_teller, with_new_counter, ask_views, with_tells, with_tell, latest_view, ask_log}
use Rattle.nz_machine.specs.runs.World.{Has}
use Rattle.nz_machine.specs.runs.Hearing.{Heard}
use Rattle.nz_machine.proofs.facts.Guards.{IsFresh, HearsLeader, IsLeader}

-- ---- what moves ask for

-- the request of the body as an entry, with its deadline or with one that it was given anew
pub record IsRequest (b : TimedBody) (e : Entry) : Type 0 where
  pub deadline : ℕ
  pub is : e ≡ entry_at deadline b
  pub low : (deadline ≡ b.deadline) ⊎ (deadline ≤ MAX_DEADLINE)

-- the message brings the entry
abbrev pub Brings : Heard → Entry → Type 0
Brings (Some (Proxy p, messages.Timed b)) e = IsRequest b e
Brings (Some (Replica r, messages.FetchReply b)) e = Has b.entries e
Brings (Some (Replica r, messages.ViewChange b)) e = Has b.entries e
Brings (Some (Replica r, messages.StartView b)) e = Has b.entries e
Brings (Some (Replica r, messages.StateTell b)) e = Has b.entries e
Brings _ e = ⊥

pub record MayWait (heard : Heard) (s : ReplicaData) (e : Entry) : Type 0 where
  pub brought : Brings heard e
  pub normal : is_normal s.status ≡ true
  pub logged : has_id (keys_of s.log.entries) (id_of e.key) ≡ false
  pub held : has_id (keys_of s.early) (id_of e.key) ≡ false

pub record MayRelease (s : ReplicaData) (e : Entry) (es : List Entry) : Type 0 where
  pub normal : is_normal s.status ≡ true
  pub first : s.early ≡ e ∷ es
  pub may : may_release s e ≡ true

-- a log modification of the own leader
pub record HearsLogMod (f me : ℕ) (heard : Heard) (s : ReplicaData) : Type 0 where
  pub sender : ℕ
  pub body : LogModBody
  pub is : heard ≡ Some (Replica sender, messages.LogMod body)
  pub leader : HearsLeader f me s.status s.view sender body.view

-- the message's key for the first place that is not synced, with the command that is found for its id
pub record MaySync (f me : ℕ) (heard : Heard) (s : ReplicaData) (e : Entry) : Type 0 where
  pub heard_mod : HearsLogMod f me heard s
  pub start : heard_mod.body.start ≤ s.log.synced
  pub key : slice_get heard_mod.body.keys (s.log.synced - heard_mod.body.start) ≡ Some e.key
  pub may : may_sync s e.key ≡ true
  pub old : Entry
  pub found : entry_of_id s (id_of e.key) ≡ Some old
  pub same : e.command ≡ old.command

pub record MayNote (f me : ℕ) (heard : Heard) (s : ReplicaData) (sender count : ℕ) : Type 0 where
  pub body : SyncReportBody
  pub is : heard ≡ Some (Replica sender, messages.SyncReport body)
  pub same : count ≡ body.synced
  pub leader : IsLeader f me s.status s.view body.view
  pub low : body.synced ≤ length s.log.entries

-- the view that a message names
abbrev pub Names : Heard → ℕ → Type 0
Names (Some (Replica r, messages.LogMod b)) view = view ≡ b.view
Names (Some (Replica r, messages.ViewAsk b)) view = view ≡ b.view
Names (Some (Replica r, messages.ViewChange b)) view = view ≡ b.view
Names (Some (Replica r, messages.StartView b)) view = view ≡ b.view
Names (Some (Replica r, messages.StateTell b)) view = view ≡ b.view
Names _ view = ⊥

-- a later view: the next one, or one that the message names
pub record MayEnter (heard : Heard) (s : ReplicaData) (view : ℕ) : Type 0 where
  pub up : is_up s.status ≡ true
  pub later : s.view < view
  pub named : ((view ≡ s.view + 1) × (s.view < MAX_VIEW)) ⊎ Names heard view

-- a report of a replica in the view change
pub record HearsReport (heard : Heard) (s : ReplicaData) (sender : ℕ) (b : ViewChangeBody) : Type 0 where
  pub is : heard ≡ Some (Replica sender, messages.ViewChange b)
  pub changing : is_changing s.status ≡ true

-- the merged log has room, and it is the view change
pub record MayBegin (f me : ℕ) (s : ReplicaData) : Type 0 where
  pub changing : is_changing s.status ≡ true
  pub few : length (merged f (with_own_report me s)) ≤ MAX_ENTRIES

-- a message brings the whole log of a view, with how much of it is committed
abbrev pub BringsLog : Heard → ℕ → ℕ → List Entry → ℕ → Type 0
BringsLog (Some (Replica r, messages.StartView b)) sender view log commit = (sender ≡ r) × (view ≡ b.view) × (log ≡ b.entries) × (commit ≤ length b.entries)
BringsLog (Some (Replica r, messages.StateTell b)) sender view log commit = (sender ≡ r) × (view ≡ b.view) × (log ≡ b.entries) × (commit ≡ b.commit)
BringsLog _ sender view log commit = ⊥

-- it is the leader of the view that sends it
pub record MayStart (f : ℕ) (heard : Heard) (s : ReplicaData) (view : ℕ) (log : List Entry) (commit : ℕ) : Type 0 where
  pub sender : ℕ
  pub brought : BringsLog heard sender view log commit
  pub leader : sender ≡ leader_of f view

pub record HearsTeller (heard : Heard) (s : ReplicaData) (sender : ℕ) (vector : List ℕ) : Type 0 where
  pub body : VectorTellBody
  pub is : heard ≡ Some (Replica sender, messages.VectorTell body)
  pub same : vector ≡ body.vector
  pub rejoining : is_rejoining s.status ≡ true

pub record HearsTell (heard : Heard) (s : ReplicaData) (sender : ℕ) (b : RejoinTellBody) : Type 0 where
  pub is : heard ≡ Some (Replica sender, messages.RejoinTell b)
  pub rejoining : is_rejoining s.status ≡ true

-- ---- the moves

-- between rules a state is whole; while keys are taken, early keys need not be above the log's
pub data Interval : Type 0 where
  Whole : Interval
  Taking : Interval

pub data Move (f me : ℕ) (heard : Heard) (s : ReplicaData) : Interval → Interval → ReplicaData → Type 0 where
  Count : (clock quiet since : ℕ) → (AreClocks s.status s.clock s.quiet s.since → AreClocks s.status clock quiet since)
      → Move f me heard s Whole Whole (record s { clock = clock; quiet = quiet; since = since })
  NoteOrigin : (proxy : ℕ) (b : TimedBody) → heard ≡ Some (Proxy proxy, messages.Timed b) → Move f me heard s Whole Whole (with_origin s proxy b)
  ToEarly : (e : Entry) → MayWait heard s e → is_above_last (keys_of s.log.entries) e.key ≡ true → Move f me heard s Whole Whole (to_early s e)
  ToLate : (e : Entry) → MayWait heard s e → has_id (keys_of s.late) (id_of e.key) ≡ false
      → Move f me heard s Whole Whole (record s { late = s.late ++ e ∷ [] })
  Release : (e : Entry) (es : List Entry) → MayRelease s e es → Move f me heard s Whole Whole (after_release f me s e es)
  Merge : (sender : ℕ) (m : Message) (vector : List ℕ) → IsFresh heard s sender m vector → Move f me heard s Whole Whole (with_vector me s vector)
  Take : HearsLogMod f me heard s → Move f me heard s Whole Taking s
  Sync : (e : Entry) → MaySync f me heard s e → Move f me heard s Taking Taking (synced_with s e)
  Overtake : HearsLogMod f me heard s → Move f me heard s Taking Whole (overtaken_to_late s)
  Commit : (heard_mod : HearsLogMod f me heard s) → Move f me heard s Whole Whole (committed_to s heard_mod.body.commit)
  NoteAck : (sender synced : ℕ) → MayNote f me heard s sender synced → Move f me heard s Whole Whole (with_ack s sender synced)
  Tally : (named : ℕ) → IsLeader f me s.status s.view named → Move f me heard s Whole Whole (with_commit f me s)
  Enter : (view : ℕ) → MayEnter heard s view → Move f me heard s Whole Whole (in_view_change s view)
  Drop : Move f me heard s Whole Whole (without_strays s)
  Collect : (sender : ℕ) (b : ViewChangeBody) → HearsReport heard s sender b → Move f me heard s Whole Whole (with_report s sender b)
  Begin : MayBegin f me s → Move f me heard s Whole Whole
      (after_begin f s (merged f (with_own_report me s)) (greatest (map (λ c. c.commit) (with_own_report me s))))
  Start : (view : ℕ) (log : List Entry) (commit : ℕ) → MayStart f heard s view log commit → Move f me heard s Whole Whole (normal_in s view log commit)
  NoteTeller : (sender : ℕ) (vector : List ℕ) → HearsTeller heard s sender vector → Move f me heard s Whole Whole (with_teller me s sender vector)
  TakeCounter : eqb s.rejoin.claim last_counter ≡ false → is_rejoining s.status ≡ true → Move f me heard s Whole Whole (with_new_counter me s)
  AskViews : is_rejoining s.status ≡ true → Move f me heard s Whole Whole (ask_views f me s).0
  NoteTell : (sender : ℕ) (b : RejoinTellBody) → HearsTell heard s sender b → Move f me heard s Whole Whole (with_tell s sender b)
  Forget : is_rejoining s.status ≡ true → Move f me heard s Whole Whole (with_tells s [])
  AskLog : is_rejoining s.status ≡ true → Move f me heard s Whole Whole (ask_log f s (latest_view s)).0

-- P is kept by each move
pub record Closed (f me : ℕ) (heard : Heard) (P : Interval → ReplicaData → Type 0) : Type 0 where
  pub kept : (s t : ReplicaData) (p q : Interval) → Move f me heard s p q t → P p s → P q t
