-- The reports that the leader of a view collects.
use Rattle.std.proofs.Common.{◌≡◌, ℕ, ◌≤◌, ◌<◌, Bool, true, false, not, eqb, List, [], ◌∷◌, map, subst, inl, inr, arith}
use Rattle.std.specs.Prelude.{slice_index}
use Rattle.std.specs.List.{filter}
use Rattle.std.proofs.lemmas.Bool.Decides.{nat_tests}
use Rattle.nz_base.specs.Cluster.{replica_count}
use Rattle.nz_cv.specs.Vectors.{is_stray, merged_vector}
use Rattle.nz_cv.proofs.Merging.{merged-elsewhere}
use Rattle.nz_msg.specs.declared.message.ViewChangeBody.{ViewChangeBody}
use Rattle.nz_msg.specs.declared.message.Message.{Message}
use Rattle.nz_msg.specs.declared.message.Message.TheVariants as messages
use Rattle.nz_machine.specs.rules.State.{ReplicaData}
use Rattle.nz_machine.specs.declared.event.Event.{Event}
use Rattle.nz_machine.specs.declared.data.CollectedReport.{CollectedReport}
use Rattle.nz_machine.specs.rules.Replicas.{is_changing}
use Rattle.nz_machine.specs.rules.Begins.{report_of, without_strays}
use Rattle.nz_machine.specs.rules.Vectors.{with_vector}
use Rattle.nz_machine.proofs.facts.Guards.{IsFresh}
use Rattle.nz_machine.specs.runs.World.{Has}
use Rattle.nz_machine.specs.runs.Hearing.{Heard}
use Rattle.nz_math.specs.Count.{AreDistinct}
use Rattle.nz_laws_cv.proofs.Outcomes.{collecting, Base, Anew, Going, Outcome, Stays, Release, Merge, Sync, Tally, Enter, Follow}
use Rattle.nz_laws_cv.proofs.Outcomes.{Answer, Collect, Begin, Start, Fall, Wake, HearVector, Count, HearView, Forget, AskLog, Return, Back}
use Rattle.nz_laws_cv.proofs.OutcomeRules.{changing_up}
use Rattle.nz_laws_cv.proofs.Hearing.{HearsFit}
use Rattle.nz_machine.proofs.runs.Runs.{has_split}
use Rattle.nz_laws_cv.proofs.Modes.{IsSound, not_stray, merges, merges_in, new_size, normal_no_change, up_no_rejoin}
use Rattle.nz_machine.proofs.lists.Distinct.{distinct_filter, distinct_replace}
use Rattle.nz_laws_cv.proofs.Lists.{filter_has}
use Rattle.nz_laws_cv.proofs.Tellers.{HearsSent}

abbrev pub reporter : CollectedReport → ℕ
reporter r = r.report.sender

-- what the sender reported
abbrev pub report_message : ℕ → CollectedReport → Message
report_message view r =
    messages.ViewChange (record {
      view =
          view;
      last = r.report.last;
      vector = r.vector;
      synced = r.report.synced;
      commit = r.report.commit;
      entries = r.report.log;
    })

module _ (f me : ℕ) (Sent : ℕ → Message → Type 0) where
  pub record IsReported (view : ℕ) (v : List ℕ) (r : CollectedReport) : Type 0 where
    pub below : r.report.sender < replica_count f
    pub other : ¬ (r.report.sender ≡ me)
    pub sent : Sent r.report.sender (report_message view r)
    pub merged_in : (k : ℕ) → ¬ (k ≡ me) → slice_index r.vector k ≤ slice_index v k
    pub fresh : slice_index v r.report.sender ≤ slice_index r.vector r.report.sender

  pub record AreReports (view : ℕ) (v : List ℕ) (reports : List CollectedReport) : Type 0 where
    pub distinct : AreDistinct (map reporter reports)
    pub each : (r : CollectedReport) → Has reports r → IsReported view v r

  -- of a state in a view change
  pub record HasReports (s : ReplicaData) : Type 0 where
    pub reports : is_changing s.status ≡ true → AreReports s.view s.vector s.reports

  pub no_reports : (view : ℕ) (v : List ℕ) → AreReports view v []
  no_reports view v = record { distinct = tt; each = λ r has. absurd has }

  new_fresh : (u v : List ℕ) (y : ℕ) → is_stray u y v ≡ false → slice_index v y ≤ slice_index u y
  new_fresh u v y h = grind (arith, nat_tests, h)

  module _ (e : Event) (heard : Heard) (fit : HearsFit f me heard) (sent : HearsSent Sent me heard) (in_group : me < replica_count f) where
    -- those that are not stray for the merged vector
    fresh_reports : (s : ReplicaData) (sender : ℕ) (m : Message) (u : List ℕ) → IsSound f s → IsFresh heard s sender m u → AreReports s.view s.vector s.reports
        → AreReports s.view (merged_vector s.vector u me) (without_strays (with_vector me s u)).reports
    fresh_reports s sender m u sound new h =
        let v = merged_vector s.vector u me in
        let test : CollectedReport → Bool = λ r. not (is_stray r.vector r.report.sender v) in
        record {
          distinct = distinct_filter reporter test s.reports h.distinct;
          each = λ r has.
              let p = filter_has test s.reports r has in
              let k = h.each r p.among in
              record {
                below = k.below;
                other = k.other;
                sent = k.sent;
                merged_in = λ i other. let low =
                    k.merged_in i other in let up = merges f me e heard fit s sender m u in_group sound new i in omega (arith, low, up);
                fresh = not_stray r.vector v r.report.sender p.passes;
              };
        }

    base_reports : (s : ReplicaData) (sender : ℕ) (b : ViewChangeBody) (base : List CollectedReport) → IsSound f s → HasReports s
        → IsFresh heard s sender (messages.ViewChange b) b.vector → Base (with_vector me s b.vector) b.view base
        → AreReports b.view (merged_vector s.vector b.vector me) base
    base_reports s sender b _ sound h new (Anew later) = no_reports b.view (merged_vector s.vector b.vector me)
    base_reports s sender b _ sound h new (Going same changing) =
        subst (λ (w : ℕ). AreReports w (merged_vector s.vector b.vector me) (without_strays (with_vector me s b.vector)).reports) same
        (fresh_reports s sender (messages.ViewChange b) b.vector sound new (h.reports changing))

    -- the one that is heard: it was not stray, so what is merged has its sender's counter
    new_report : (s : ReplicaData) (sender : ℕ) (b : ViewChangeBody) → IsSound f s → IsFresh heard s sender (messages.ViewChange b) b.vector
        → IsReported b.view (merged_vector s.vector b.vector me) (report_of sender b)
    new_report s sender b sound new = record {
      below = (fit.hears sender _ new.is).below;
      other = (fit.hears sender _ new.is).other;
      sent = sent.sent sender (messages.ViewChange b) new.is;
      merged_in = λ i other. merges_in f me e heard fit s sender _ b.vector in_group sound new i other;
      fresh =
          let size = new_size f me heard s sender _ b.vector fit new in
          let own = sound.sized in
          let below = (fit.hears sender _ new.is).below in
          let is = merged-elsewhere s.vector b.vector me sender (omega (arith, size, own)) (omega (arith, below, own)) (fit.hears sender _ new.is).other in
          let low = new_fresh b.vector s.vector sender new.new in
          omega (arith, is, low);
    }

    one_of : (s : ReplicaData) (view : ℕ) (v : List ℕ) (sender : ℕ) (b : ViewChangeBody) (base : List CollectedReport) → AreReports view v base
        → IsReported view v (report_of sender b) → (r : CollectedReport) → Has (collecting me s base sender b).reports r → IsReported view v r
    one_of s view v sender b base h new r has = elim (has_split (filter (λ x. not (eqb x.report.sender sender)) base) (report_of sender b ∷ []) r has) [
      | inl old ↦ h.each r (filter_has (λ (x : CollectedReport). not (eqb x.report.sender sender)) base r old).among
      | inr (inl is) ↦ subst (IsReported view v) is new
      | inr (inr none) ↦ absurd none
    ]

    -- the reports with the one that is heard
    pub collected : (s : ReplicaData) (sender : ℕ) (b : ViewChangeBody) (base : List CollectedReport) → IsSound f s → HasReports s
        → IsFresh heard s sender (messages.ViewChange b) b.vector → Base (with_vector me s b.vector) b.view base
        → AreReports b.view (merged_vector s.vector b.vector me) (collecting me s base sender b).reports
    collected s sender b base sound h new on =
        let old = base_reports s sender b base sound h new on in
        record {
          distinct = distinct_replace reporter base (report_of sender b) old.distinct;
          each = one_of s b.view (merged_vector s.vector b.vector me) sender b base old (new_report s sender b sound new);
        }

    pub reports_kept : (s t : ReplicaData) → IsSound f s → Outcome f me e heard s t → HasReports s → HasReports t
    reports_kept s _ sound Stays h = h
    reports_kept s _ sound (Release log normal more) h = record { reports = λ c. normal_no_change s.status normal c }
    reports_kept s _ sound (Sync sender b new hears le log changed) h = record { reports = λ c. normal_no_change s.status hears.normal c }
    reports_kept s _ sound (Tally sender b is normal led same few) h = record { reports = λ c. normal_no_change s.status normal c }
    reports_kept s _ sound (Merge sender m u new normal) h = record { reports = λ c. normal_no_change s.status normal c }
    reports_kept s _ sound (Enter w up later log grown) h = record { reports = λ _. no_reports w s.vector }
    reports_kept s _ sound (Follow sender m u new w up later) h = record { reports = λ _. no_reports w _ }
    reports_kept s _ sound (Answer sender b new normal same) h = record { reports = λ c. normal_no_change s.status normal c }
    reports_kept s _ sound (Collect sender b new may base on) h = record { reports = λ _. collected s sender b base sound h new on }
    reports_kept s _ sound (Begin sender b new may base on full) h = record { reports = λ c. absurd cc }
    reports_kept s _ sound (Start sender b new may) h = record { reports = λ c. absurd cc }
    reports_kept s _ sound (Fall is) h = record { reports = λ c. absurd cc }
    reports_kept s _ sound (Wake nonce is down) h = record { reports = λ c. absurd cc }
    reports_kept s _ sound (HearVector sender b new ours) h = record { reports = λ c. up_no_rejoin s.status (changing_up s.status c) ours.rejoining }
    reports_kept s _ sound (Count sender b new ours many) h = record { reports = λ c. up_no_rejoin s.status (changing_up s.status c) ours.rejoining }
    reports_kept s _ sound (HearView sender b new ours) h = record { reports = λ c. up_no_rejoin s.status (changing_up s.status c) ours.rejoining }
    reports_kept s _ sound (Forget sender b new ours) h = record { reports = λ c. up_no_rejoin s.status (changing_up s.status c) ours.rejoining }
    reports_kept s _ sound (AskLog sender b new ours many) h = record { reports = λ c. up_no_rejoin s.status (changing_up s.status c) ours.rejoining }
    reports_kept s _ sound (Return sender b new ours late leader) h = record { reports = λ c. absurd cc }
    reports_kept s _ sound (Back rejoining is) h = record { reports = λ c. up_no_rejoin s.status (changing_up s.status c) rejoining }

-- what was sent stays sent
pub are_reports_stay : (f me : ℕ) (P Q : ℕ → Message → Type 0) → ((y : ℕ) (m : Message) → P y m → Q y m)
    → (view : ℕ) (v : List ℕ) (reports : List CollectedReport)
    → AreReports f me P view v reports → AreReports f me Q view v reports
are_reports_stay f me P Q more view v reports h = record {
  distinct = h.distinct;
  each = λ r has. let k = h.each r has in record { below = k.below; other = k.other; sent = more _ _ k.sent; merged_in = k.merged_in; fresh = k.fresh };
}

pub reports_stay : (f me : ℕ) (P Q : ℕ → Message → Type 0) → ((y : ℕ) (m : Message) → P y m → Q y m) → (s : ReplicaData)
    → HasReports f me P s → HasReports f me Q s
reports_stay f me P Q more s h = record { reports = λ c. are_reports_stay f me P Q more s.view s.vector s.reports (h.reports c) }
