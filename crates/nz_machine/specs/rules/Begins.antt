-- The rule by which the leader of a view collects view changes, and begins the view.
use Rattle.std.specs.Prelude.{ℕ, Bool, not, ◌&&◌, ◌==◌, nat_le, nat_lt, min, List, [], ◌∷◌, ◌++◌, length, map, filter, replicate, if◌then◌else◌}
use Rattle.nz_base.specs.Cluster.{replica_count, leader_of}
use Rattle.nz_base.specs.declared.key.Entry.{Entry}
use Rattle.nz_base.specs.declared.limits.TheConstants.{MAX_ENTRIES}
use Rattle.nz_store.specs.Sequence.{replies}
use Rattle.nz_cv.specs.Vectors.{is_stray}
use Rattle.nz_merge.specs.declared.report.Report.{Report}
use Rattle.nz_merge.specs.Merged.{greatest, merged}
use Rattle.nz_msg.specs.declared.message.ViewChangeBody.{ViewChangeBody}
use Rattle.nz_machine.specs.rules.State.{ReplicaData, Out}
use Rattle.nz_machine.specs.declared.data.CollectedReport.{CollectedReport}
use Rattle.nz_machine.specs.rules.Replicas.{is_changing, is_up, commands, to_others, to_replica, ◌and_then◌}
use Rattle.nz_machine.specs.rules.Vectors.{unless_stray}
use Rattle.nz_machine.specs.rules.Views.{enter_later}
use Rattle.nz_machine.specs.rules.Adopting.{normal_in, start_view_message}

-- ---- what is collected

-- A view change as it is collected.
abbrev pub report_of : ℕ → ViewChangeBody → CollectedReport
report_of sender b = record {
  vector = b.vector;
  report = record { sender = sender; last = b.last; synced = b.synced; commit = b.commit; log = b.entries };
}

-- The report is collected in place of an earlier one of its sender.
abbrev pub with_report : ReplicaData → ℕ → ViewChangeBody → ReplicaData
with_report s sender b = record s { reports = filter (λ r. not (r.report.sender == sender)) s.reports ++ report_of sender b ∷ [] }

-- Reports that the replica's vector makes stray are no longer collected.
abbrev pub without_strays : ReplicaData → ReplicaData
without_strays s = record s { reports = filter (λ r. not (is_stray r.vector r.report.sender s.vector)) s.reports }

-- ---- the begin

-- What the leader itself would report.
abbrev pub own_report : ℕ → ReplicaData → Report
own_report me s = record { sender = me; last = s.last; synced = s.log.synced; commit = s.commit; log = s.log.entries }

-- The reports that a view begins from: the leader's own, and the collected ones.
abbrev pub with_own_report : ℕ → ReplicaData → List Report
with_own_report me s = own_report me s ∷ map (λ r. r.report) s.reports

-- The leader starts the view with the log. It has executed all of it, and nobody has reported yet.
abbrev pub after_begin : ℕ → ReplicaData → List Entry → ℕ → ReplicaData
after_begin f s log commit =
    record (normal_in s s.view log (min (length log) commit)) {
      ack = replicate (replica_count f) 0;
      results = replies (commands log);
    }

-- The view begins with the merged log, where a log has room for it, and the others get a start-view.
unfoldable pub begin : ℕ → ℕ → ReplicaData → ReplicaData × List Out
begin f me s =
    let reports = with_own_report me s in
    let log = merged f reports in
    if nat_lt MAX_ENTRIES (length log) then (s, [])
    else (let begun = after_begin f s log (greatest (map (λ c. c.commit) reports)) in (begun, to_others f me (start_view_message begun)))

-- ---- the rule

-- With exactly f reports beside its own the leader begins the view.
abbrev pub collect : ℕ → ℕ → ℕ → ViewChangeBody → ReplicaData → ReplicaData × List Out
collect f me sender b s =
    let collected = with_report s sender b in
    if length collected.reports == f then begin f me collected else (collected, [])

-- In the view change the report is collected. Where the view has begun already, its sender gets a start-view.
abbrev pub hear_report : ℕ → ℕ → ℕ → ViewChangeBody → ReplicaData → ReplicaData × List Out
hear_report f me sender b s = if is_changing s.status then collect f me sender b s else (s, to_replica sender (start_view_message s))

-- Whether the replica leads the view, and the view is its own or a later one.
abbrev pub may_lead : ℕ → ℕ → ReplicaData → ℕ → Bool
may_lead f me s view = is_up s.status && ((leader_of f view == me) && nat_le s.view view)

-- The vector is merged, strays go, the view is entered if it is later, and the report is collected or answered.
unfoldable pub view_change_rule : ℕ → ℕ → ReplicaData → ℕ → ViewChangeBody → ReplicaData × List Out
view_change_rule f me s sender b =
    if may_lead f me s b.view
    then unless_stray me s sender b.vector (λ t. enter_later f me b.view (without_strays t) and_then hear_report f me sender b)
    else (s, [])
