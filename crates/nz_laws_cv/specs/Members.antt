-- From whom a completed rejoin has its answers, and a view its reports: how many, each found in the run; and what those
-- who answered know.
use Rattle.std.specs.Prelude.{◌≡◌, ℕ, ◌≤◌, List, ◌∷◌, length, map, Some, IsTrue, IsFalse}
use Rattle.nz_base.specs.Cluster.{replica_count, slow_size, leader_of}
use Rattle.nz_base.specs.Moments.{At}
use Rattle.nz_math.specs.Count.{is_in, IsChoice}
use Rattle.nz_merge.specs.declared.report.Report.{Report}
use Rattle.nz_machine.specs.declared.event.Record.{Record}
use Rattle.nz_machine.specs.declared.data.CollectedReport.{CollectedReport}
use Rattle.nz_machine.specs.declared.data.ToldView.{ToldView}
use Rattle.nz_machine.specs.rules.State.{Group}
use Rattle.nz_machine.specs.rules.Replicas.{is_up}
use Rattle.nz_machine.specs.runs.World.{Has}
use Rattle.nz_machine.specs.runs.History.{source}
use Rattle.nz_machine.specs.runs.Leading.{leader_at}
use Rattle.nz_machine.specs.rules.Begins.{own_report}
use Rattle.nz_machine.specs.runs.Incarnations.{replica_at, counter_at, own_counter, completes, views_used, tell_source}
use Rattle.nz_machine.specs.runs.Begun.{reports_used, report_parcel}

-- Different replicas of the group, without this one.
pub record AreOthers (g : Group) (me : ℕ) (replicas : List ℕ) : Type 0 where
  pub choice : IsChoice (replica_count g.f) replicas
  pub others : IsFalse (is_in replicas me)

-- ---- rejoins

-- The rejoin of m that is completed at C used answers of at least f + 1 different others, each with its source.
pub record IsAnswered (g : Group) (m : ℕ) (C : List Record) : Type 0 where
  pub enough : slow_size g.f ≤ length (views_used g m C)
  pub senders : AreOthers g m (map (λ (t : ToldView). t.sender) (views_used g m C))
  pub sent : (t : ToldView) → Has (views_used g m C) t → (S : List Record) × (tell_source g m C t ≡ Some S)

-- From its answer at S on, who answered a completed rejoin knows the counter of that at each moment K at which it is up.
abbrev pub KnownSince : Group → List Record → Type 0
KnownSince g J = (m : ℕ) (C S K : List Record) (t : ToldView) → At J C → At J K → IsTrue (completes g m C) → Has (views_used g m C) t
    → tell_source g m C t ≡ Some S → At K S → IsTrue (is_up (replica_at g t.sender K).status) → own_counter g m C ≤ counter_at g t.sender m K

-- ---- begins

-- The view that begins at B has reports of exactly f different others than its leader, each with its source.
pub record IsReportedTo (g : Group) (v : ℕ) (B : List Record) : Type 0 where
  pub exact : length (reports_used g v B) ≡ g.f
  pub senders : AreOthers g (leader_of g.f v) (map (λ (r : CollectedReport). r.report.sender) (reports_used g v B))
  pub sent : (r : CollectedReport) → Has (reports_used g v B) r → (S : List Record) × (source (report_parcel g v r) B ≡ Some S)

-- All reports that a view begins from: its leader's own, from before the record, and the collected ones.
abbrev pub begun_reports : Group → ℕ → Record → List Record → List Report
begun_reports g v r K = own_report (leader_of g.f v) (leader_at g v K) ∷ map (λ (x : CollectedReport). x.report) (reports_used g v (r ∷ K))
