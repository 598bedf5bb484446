-- Where views begin, from whose reports, and what holds of the views of a run.
use Rattle.std.specs.Prelude.{◌≡◌, ℕ, ◌<◌, ◌≤◌, ◌⊎◌, Bool, not, ◌&&◌, ◌==◌, List, [], ◌∷◌, Option, Some, None, IsTrue, if◌then◌else◌}
use Rattle.nz_base.specs.Cluster.{leader_of}
use Rattle.nz_base.specs.declared.actor.Actor.TheVariants.{Replica}
use Rattle.nz_base.specs.declared.key.Entry.{Entry}
use Rattle.nz_msg.specs.declared.message.Message.TheVariants as messages
use Rattle.nz_machine.specs.declared.event.Parcel.{Parcel}
use Rattle.nz_machine.specs.declared.event.Record.{Record}
use Rattle.nz_machine.specs.rules.State.{Group}
use Rattle.nz_machine.specs.declared.data.CollectedReport.{CollectedReport}
use Rattle.nz_machine.specs.rules.Step.{parcel}
use Rattle.nz_machine.specs.runs.World.{Has}
use Rattle.nz_machine.specs.runs.History.{source}
use Rattle.nz_machine.specs.runs.Leading.{is_normal_in, leader_at, is_led}
use Rattle.nz_base.specs.Moments.{At}
use Rattle.nz_machine.specs.runs.Incarnations.{replica_at, incarnation, completes}

-- ---- the begin

-- Whether the view begins with the newest record: its leader leads it from then on. View 0 begins before all.
abbrev pub begins : Group → ℕ → List Record → Bool
begins g v [] = v == 0
begins g v (r ∷ J) = not (is_led g v J) && is_led g v (r ∷ J)

-- The earlier log, if there is one.
abbrev pub earlier_or : Option (List Entry) → Option (List Entry) → Option (List Entry)
earlier_or None now = now
earlier_or (Some log) now = Some log

-- The log with which the view began, where it has begun.
unfoldable pub start : Group → ℕ → List Record → Option (List Entry)
start g v [] = if v == 0 then Some [] else None
start g v (r ∷ J) = earlier_or (start g v J) (if begins g v (r ∷ J) then Some (leader_at g v (r ∷ J)).log.entries else None)

-- ---- from whose reports

-- The reports of others that the view began from, at the moment when it begins: what was collected stays.
abbrev pub reports_used : Group → ℕ → List Record → List CollectedReport
reports_used g v B = (leader_at g v B).reports

-- The parcel that brought one of them.
abbrev pub report_parcel : Group → ℕ → CollectedReport → Parcel
report_parcel g v r =
    parcel (Replica r.report.sender) (
      Replica (leader_of g.f v),
      messages.ViewChange (record {
        view = v;
        last = r.report.last;
        vector = r.vector;
        synced = r.report.synced;
        commit = r.report.commit;
        entries = r.report.log;
      }),
    )

-- The report of another replica, which it sent at the moment S.
pub record IsReported (g : Group) (v : ℕ) (B : List Record) (m : ℕ) (S : List Record) : Type 0 where
  pub report : CollectedReport
  pub used : Has (reports_used g v B) report
  pub sender : report.report.sender ≡ m
  pub source : source (report_parcel g v report) B ≡ Some S

-- The view that begins at B begins from a report that the replica made at S. The leader's own is of that moment.
abbrev pub IsMemberOf : Group → ℕ → List Record → ℕ → List Record → Type 0
IsMemberOf g v B m S = ((m ≡ leader_of g.f v) × (S ≡ B)) ⊎ IsReported g v B m S

-- ---- the views of a run

-- What holds of the views of a run, whoever crashes.
pub record Views (g : Group) (J : List Record) : Type 0 where
  -- Each view begins at most once.
  pub once : (v : ℕ) (B C : List Record) → At J B → At J C → IsTrue (begins g v B) → IsTrue (begins g v C) → B ≡ C
  -- An incarnation reported for a view that began: each later one of that replica rejoins in that view or above.
  pub reported : (v m : ℕ) (B S C : List Record) → At J B → At J C → IsTrue (begins g v B) → IsMemberOf g v B m S → IsTrue (completes g m C)
      → incarnation g m S < incarnation g m C → v ≤ (replica_at g m C).view
  -- The same where it was in normal operation in the view.
  pub was_normal : (v m : ℕ) (K C : List Record) → At J K → At J C → IsTrue (is_normal_in v (replica_at g m K)) → IsTrue (completes g m C)
      → incarnation g m K < incarnation g m C → v ≤ (replica_at g m C).view
  -- No later incarnation of its leader leads a view than the one under which it began.
  pub leader_is_one : (v : ℕ) (B K : List Record) → At J B → At J K → IsTrue (begins g v B) → IsTrue (is_led g v K)
      → incarnation g (leader_of g.f v) K ≤ incarnation g (leader_of g.f v) B
