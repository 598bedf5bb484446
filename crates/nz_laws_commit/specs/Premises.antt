-- The premises that speak of no leader's log: of single states, of begins, and of rejoins.
use Rattle.std.specs.Prelude.{◌≡◌, ℕ, ◌≤◌, ◌<◌, ◌⊎◌, List, ◌∷◌, length, Some, IsTrue}
use Rattle.std.specs.List.{All}
use Rattle.nz_base.specs.declared.key.Key.{Key}
use Rattle.nz_base.specs.Log.{keys_of, IsLog}
use Rattle.nz_base.specs.Moments.{At, Before}
use Rattle.nz_math.specs.Count.{IsChoice}
use Rattle.nz_math.specs.Quorum.{group_size, slow_quorum}
use Rattle.nz_merge.specs.declared.report.Report.{Report}
use Rattle.nz_merge.specs.Merged.{merged}
use Rattle.nz_merge.specs.Sender.{senders}
use Rattle.nz_laws_commit.specs.States.{Normal, Rejoining, IsUp, Machine, place}
use Rattle.nz_laws_commit.specs.Supports.{keys_at, view_leader, IsNormal}

module _ {R : Type 0} (M : Machine R) where
  -- The log is a log, and has the entries that are called synced.
  pub record HasSoundLog (y : ℕ) (K : List R) : Type 0 where
    pub log : IsLog (M.state y K).log
    pub synced : (M.state y K).synced ≤ length (M.state y K).log

  -- ---- rejoins

  -- By the newest record of C, one of its own, the replica turns from Rejoining to Normal.
  pub record CompletesRejoin (x : ℕ) (C : List R) : Type 0 where
    pub r : R
    pub before : List R
    pub is : C ≡ r ∷ before
    pub actor : IsTrue (M.by r x)
    pub rejoining : (M.state x before).status ≡ Rejoining
    pub normal : (M.state x C).status ≡ Normal

  -- At the completion C the replica x has the log that the leader of its view sent it at t, in x's present
  -- incarnation.
  pub record IsLogOfLeader (x : ℕ) (C t : List R) : Type 0 where
    pub moment : Before C t
    pub restarted : M.inc x t ≡ M.inc x C
    pub leader : IsNormal M (view_leader M (M.state x C).view) (M.state x C).view t
    pub log : keys_at M x C ≡ keys_at M (view_leader M (M.state x C).view) t
    pub synced : (M.state x C).synced ≡ length (M.state x C).log
    -- The leader knows x's counter by then.
    pub counter : place (M.state x C).vector x ≤ place (M.state (view_leader M (M.state x C).view) t).vector x

  -- The completion of the incarnation in which the replica is up at K.
  pub record Rejoined (x : ℕ) (K : List R) : Type 0 where
    pub C : List R
    pub moment : At K C
    pub completes : CompletesRejoin x C
    pub same : M.inc x C ≡ M.inc x K
    pub own : place (M.state x C).vector x ≡ place (M.state x K).vector x
    pub positive : 1 ≤ place (M.state x C).vector x
    pub view : (M.state x C).view ≤ (M.state x K).view
    pub last : (M.state x C).view ≤ (M.state x K).last
    pub t : List R
    pub told : IsLogOfLeader x C t

  -- ---- begins

  -- A member of a begin that reports at q reports its state there; the new leader, whose report is the begin itself,
  -- that before the record.
  abbrev pub ReportsState : ℕ → List R → List R → Type 0
  ReportsState y q read = (read ≡ q) ⊎ ((r : R) × (q ≡ r ∷ read) × ((M.state y q).status ≡ Normal))

  -- What the begin of w merged of a member is its state, reported at q, where it was up in w.
  pub record IsMemberReport (w : ℕ) (c : Report) (J : List R) : Type 0 where
    pub q : List R
    pub moment : At J q
    pub up : IsUp (M.state c.sender q).status
    pub view : (M.state c.sender q).view ≡ w
    pub read : List R
    pub is : ReportsState c.sender q read
    pub read_up : IsUp (M.state c.sender read).status
    pub last : c.last ≡ (M.state c.sender read).last
    pub synced : c.synced ≡ (M.state c.sender read).synced
    pub log : c.log ≡ (M.state c.sender read).log
    pub low : c.last < w
    -- A rejoin of the member in a later incarnation ends in no lower view.
    pub later : (C : List R) → At J C → CompletesRejoin c.sender C → M.inc c.sender q < M.inc c.sender C → w ≤ (M.state c.sender C).view

  -- The view w began with the merged log of the reports of f + 1 different members.
  pub record IsMergeOfReports (w : ℕ) (S : List Key) (J : List R) : Type 0 where
    pub reports : List Report
    pub merged : S ≡ keys_of (merged M.f reports)
    pub choice : IsChoice (group_size M.f) (senders reports)
    pub size : length reports ≡ slow_quorum M.f
    pub members : All (λ c. IsMemberReport w c J) reports

  -- ---- the premises

  -- What is to be known of the states, begins and rejoins of a run.
  pub record ViewPremises (J : List R) : Type 0 where
    -- Who is up has a sound log.
    pub facts : (y : ℕ) (K : List R) → At J K → IsUp (M.state y K).status → HasSoundLog y K
    -- A Normal leader has all of its log synced.
    pub leads_synced : (v : ℕ) (K : List R) → At J K → IsNormal M (view_leader M v) v K
        → (M.state (view_leader M v) K).synced ≡ length (M.state (view_leader M v) K).log
    -- A view above 0 began with merged reports.
    pub begins : (w : ℕ) (S : List Key) → 0 < w → M.start w J ≡ Some S → IsMergeOfReports w S J
    -- Who is up in a later incarnation completed a rejoin in it.
    pub completed : (x : ℕ) (K : List R) → At J K → IsUp (M.state x K).status → 0 < M.inc x K → Rejoined x K
    -- A later incarnation has a greater own counter.
    pub rise : (x : ℕ) (S K : List R) → At J S → At J K → IsUp (M.state x S).status → IsUp (M.state x K).status → M.inc x S < M.inc x K
        → place (M.state x S).vector x < place (M.state x K).vector x
    -- A rejoin ends in no lower view than those in which the replica was Normal in an earlier incarnation.
    pub was_normal : (x w : ℕ) (K C : List R) → At J K → At J C → IsNormal M x w K → CompletesRejoin x C → M.inc x K < M.inc x C → w ≤ (M.state x C).view
    -- A view is led in one incarnation.
    pub leader_is_one : (v : ℕ) (K L : List R) → At J K → At J L → IsNormal M (view_leader M v) v K → IsNormal M (view_leader M v) v L
        → M.inc (view_leader M v) K ≡ M.inc (view_leader M v) L
