-- With which log and commit a view begins: the merge of the reports that its leader collected, each of which is its
-- sender's state, and the greatest commit of these.
use Rattle.std.proofs.Common.{◌≡◌, ℕ, ◌≤◌, ◌<◌, true, false, List, ◌∷◌, length, map, Some, refl, sym, ap, ◌∙◌, inr, arith}
use Rattle.std.specs.Prelude.{min}
use Rattle.nz_base.specs.Cluster.{leader_of}
use Rattle.nz_base.specs.Moments.{At}
use Rattle.nz_merge.specs.declared.report.Report.{Report}
use Rattle.nz_merge.specs.Merged.{greatest, merged}
use Rattle.nz_machine.specs.declared.event.Record.{Record}
use Rattle.nz_machine.specs.declared.data.CollectedReport.{CollectedReport}
use Rattle.nz_machine.specs.rules.State.{ReplicaData, Group}
use Rattle.nz_machine.specs.rules.Replicas.{is_changing, is_up}
use Rattle.nz_machine.specs.rules.Begins.{own_report}
use Rattle.nz_machine.specs.runs.World.{Has, World}
use Rattle.nz_machine.specs.runs.Incarnations.{replica_at}
use Rattle.nz_machine.specs.runs.Leading.{leader_at, is_led}
use Rattle.nz_machine.specs.runs.Begun.{report_parcel, IsMemberOf}
use Rattle.nz_machine.proofs.runs.Sources.{has_source, source_is}
use Rattle.nz_laws_cv.specs.Members.{begun_reports}
use Rattle.nz_laws_cv.proofs.OutcomeRules.{heard_by}
use Rattle.nz_laws_cv.proofs.Hearing.{hears_fit}
use Rattle.nz_laws_cv.proofs.Steps.{law_state_at}
use Rattle.nz_laws_cv.proofs.Modes.{collects_low}
use Rattle.nz_laws_cv.proofs.WithinIncarnation.{sound_at}
use Rattle.nz_laws_cv.proofs.SentShows.{Shows}
use Rattle.nz_laws_cv.proofs.Beginnings.{normal_in_is, begun_outcome, begin_of}

-- the leader's log and commit after the record, and its state before
pub record IsBegunLog (g : Group) (w : ℕ) (r : Record) (K : List Record) : Type 0 where
  pub entries : (leader_at g w (r ∷ K)).log.entries ≡ merged g.f (begun_reports g w r K)
  pub commit : (leader_at g w (r ∷ K)).commit
      ≡ min (length (leader_at g w (r ∷ K)).log.entries) (greatest (map (λ (c : Report). c.commit) (begun_reports g w r K)))
  pub synced : (leader_at g w (r ∷ K)).log.synced ≡ length (leader_at g w (r ∷ K)).log.entries
  pub up : is_up (leader_at g w K).status ≡ true
  pub view : (leader_at g w K).view ≤ w
  pub last : (leader_at g w K).last < w

pub begun_log_is : (g : Group) (w : ℕ) (r : Record) (K : List Record) → World g K → is_led g w (r ∷ K) ≡ true → is_led g w K ≡ false → IsBegunLog g w r K
begun_log_is g w r K world led not_led =
    let l = leader_of g.f w in
    let b = begun_outcome g w r K led not_led in
    let view : b.body.view ≡ w = sym (ap (λ (s : ReplicaData). s.view) b.is) ∙ (normal_in_is w (replica_at g l (r ∷ K)) led).1 in
    let later = b.may.later in
    let low = collects_low g.f l r.event (heard_by g l r.event) (hears_fit g l r.event) (law_state_at g l K) b.body.view b.body.vector b.base
    (sound_at g K world l)
    b.may.up b.on in
    record {
      entries = ap (λ (s : ReplicaData). s.log.entries) b.is
          ∙ ap (λ (reports : List CollectedReport). merged g.f (own_report l (replica_at g l K) ∷ map (λ (x : CollectedReport). x.report) reports))
          (sym (ap (λ (s : ReplicaData). s.reports) b.is));
      commit = ap (λ (s : ReplicaData). s.commit) b.is
          ∙ ap (λ (s : ReplicaData). min (length s.log.entries)
          (greatest (map (λ (c : Report). c.commit) (own_report l (replica_at g l K) ∷ map (λ (x : CollectedReport). x.report) s.reports))))
          (sym b.is);
      synced = ap (λ (s : ReplicaData). s.log.synced) b.is ∙ sym (ap (λ (s : ReplicaData). length s.log.entries) b.is);
      up = b.may.up;
      view = omega (arith, view, later);
      last = omega (arith, view, low);
    }

-- a report is its sender's state at the moment at which it was sent
pub record IsRead (g : Group) (w : ℕ) (B : List Record) (c : Report) : Type 0 where
  pub moment : List Record
  pub at : At B moment
  pub member : IsMemberOf g w B c.sender moment
  pub changing : is_changing (replica_at g c.sender moment).status ≡ true
  pub view : (replica_at g c.sender moment).view ≡ w
  pub last : (replica_at g c.sender moment).last ≡ c.last
  pub synced : (replica_at g c.sender moment).log.synced ≡ c.synced
  pub commit : (replica_at g c.sender moment).commit ≡ c.commit
  pub entries : (replica_at g c.sender moment).log.entries ≡ c.log

pub report_is_read : (g : Group) (w : ℕ) (r : Record) (K : List Record) → World g (r ∷ K) → Shows g (r ∷ K) → is_led g w (r ∷ K) ≡ true → is_led g w K ≡ false
    → (x : CollectedReport) → Has (leader_at g w (r ∷ K)).reports x → IsRead g w (r ∷ K) x.report
report_is_read g w r K world shows led not_led x has =
    let B = r ∷ K in
    let sent = ((begin_of g w r K world shows led not_led).reports.each x has).sent in
    let k = has_source (report_parcel g w x) B sent.has in
    let s = source_is (report_parcel g w x) B k.0 k.1 in
    let shown = shows.view_change x.report.sender (leader_of g.f w) _ s.newest s.older s.at (record { has = s.sends; fits = sent.fits }) in
    record {
      moment = s.newest ∷ s.older;
      at = s.at;
      member = inr (record { report = x; used = has; sender = refl; source = k.1 ∙ ap Some s.is });
      changing = shown.changing;
      view = shown.view;
      last = shown.last;
      synced = shown.synced;
      commit = shown.commit;
      entries = shown.entries;
    }
