-- What a leader counts: each of its counts above 0 was that replica's sync point in the view.
use Rattle.std.proofs.Common.{◌≡◌, ℕ, zero, suc, ◌<◌, ◌≤◌, true, eqb, List, [], ◌∷◌, max, Some, refl, sym, ap, subst, ◌∙◌, arith, inl, inr, ◌⊎◌, eqb-true}
use Rattle.std.specs.Prelude.{slice_index, slice_set}
use Rattle.std.proofs.lemmas.Bool.{cases_lt}
use Rattle.nz_base.specs.Cluster.{replica_count, leader_of}
use Rattle.nz_base.specs.Moments.{At}
use Rattle.nz_base.specs.declared.actor.Actor.TheVariants.{Replica}
use Rattle.nz_base.proofs.Booleans.{true_and_false}
use Rattle.nz_base.proofs.Moments.{at_then, at_tail}
use Rattle.nz_msg.specs.declared.message.SyncReportBody.{SyncReportBody}
use Rattle.nz_msg.specs.declared.message.Message.TheVariants as messages
use Rattle.nz_machine.specs.declared.event.Record.{Record}
use Rattle.nz_machine.specs.rules.State.{ReplicaData, Group}
use Rattle.nz_machine.specs.rules.Replicas.{is_normal}
use Rattle.nz_machine.specs.rules.LogMods.{with_ack}
use Rattle.nz_machine.specs.runs.Shows.{ShowsReport}
use Rattle.nz_machine.specs.runs.World.{World}
use Rattle.nz_machine.specs.runs.Incarnations.{replica_at}
use Rattle.nz_machine.proofs.runs.Moments.{at_world}
use Rattle.nz_machine.proofs.shows.ReadShows.{shown_by}
use Rattle.nz_laws_cv.proofs.Outcomes.{Outcome, Stays, Release, Merge, Sync, Tally, Enter, Follow, Answer, Collect, Begin}
use Rattle.nz_laws_cv.proofs.Outcomes.{Start, Fall, Wake, HearVector, Count, HearView, Forget, AskLog, Return, Back}
use Rattle.nz_laws_cv.proofs.OutcomeRules.{heard_by}
use Rattle.nz_laws_cv.proofs.Hearing.{hears_fit}
use Rattle.nz_laws_cv.proofs.Modes.{normal_no_rejoin}
use Rattle.nz_laws_cv.proofs.Steps.{law_state_at, Acts, Rests, steps}
use Rattle.nz_laws_cv.proofs.WithinIncarnation.{first_state}
use Rattle.nz_laws_cv.proofs.Collected.{zeros}
use Rattle.nz_laws_cv.proofs.SentShows as letters
use Rattle.nz_laws_commit.specs.Supports.{HadSynced}
use Rattle.nz_laws_commit.specs.Instance.{logs_of}
use Rattle.nz_laws_commit.proofs.Instance.{is_normal_at}

-- ---- what was synced

pub had_fewer : (g : Group) (J : List Record) (v y n count : ℕ) → n ≤ count → HadSynced (logs_of g) v y count J → HadSynced (logs_of g) v y n J
had_fewer g J v y n count few h = let enough = h.enough in record { K = h.K; moment = h.moment; normal = h.normal; enough = omega (arith, enough, few) }

-- a sync report that is heard was its sender's sync point, in its view
report_source : (g : Group) (y : ℕ) (r : Record) (K : List Record) → World g (r ∷ K) → r.actor ≡ Replica y → (sender : ℕ) (b : SyncReportBody)
    → heard_by g y r.event ≡ Some (Replica sender, messages.SyncReport b) → HadSynced (logs_of g) b.view sender b.synced K
report_source g y r K w a sender b heard =
    let s = letters.sent_at sender y (messages.SyncReport b) K (letters.was_sent g y r K w a sender (messages.SyncReport b) heard) in
    let now = shown_by g K w.1 (Replica sender) s.record_of s.older (Replica y) (messages.SyncReport b) s.at s.sends.fits s.sends.has in
    let shows : ShowsReport g.f sender (replica_at g sender (s.record_of ∷ s.older)) (Replica y) b = now.shows in
    let same = sym shows.read in
    let count = ap (λ (x : SyncReportBody). x.synced) same in
    record {
      K = s.record_of ∷ s.older;
      moment = s.at;
      normal = is_normal_at g sender b.view (s.record_of ∷ s.older) shows.normal (ap (λ (x : SyncReportBody). x.view) same);
      enough = omega (arith, count);
    }

-- ---- one count more

-- where one number of a list is set, each is the new one or as it was
set_cases : (xs : List ℕ) (i z n : ℕ) → ((z ≡ i) × (slice_index (slice_set xs i n) z ≡ n)) ⊎ (slice_index (slice_set xs i n) z ≡ slice_index xs z)
set_cases [] i z n = inr refl
set_cases (x ∷ xs) zero zero n = inl (refl, refl)
set_cases (x ∷ xs) zero (suc z) n = inr refl
set_cases (x ∷ xs) (suc i) zero n = inr refl
set_cases (x ∷ xs) (suc i) (suc z) n = elim (set_cases xs i z n) [
  | inl here ↦ inl (ap suc here.0, here.1)
  | inr other ↦ inr other
]

pub max_cases : (a b : ℕ) → (max a b ≡ a) ⊎ (max a b ≡ b)
max_cases a b = elim (cases_lt a b) [ inl lt ↦ inr (omega (arith, lt)) | inr le ↦ inl (omega (arith, le)) ]

module _ (g : Group) (J : List Record) where
  -- the counts of who leads its view
  abbrev pub AreCounts : ℕ → ReplicaData → Type 0
  AreCounts y s = is_normal s.status ≡ true → eqb (leader_of g.f s.view) y ≡ true → (z : ℕ) → 0 < slice_index s.ack z
      → HadSynced (logs_of g) s.view z (slice_index s.ack z) J

  tallied : (y sender : ℕ) (b : SyncReportBody) (s : ReplicaData) → HadSynced (logs_of g) s.view sender b.synced J → AreCounts y s
      → AreCounts y (with_ack s sender b.synced)
  tallied y sender b s had h normal led z some =
      elim (set_cases s.ack sender z (max (slice_index s.ack sender) b.synced)) [
        | inl here ↦ subst (λ (x : ℕ). HadSynced (logs_of g) s.view x count J) (sym here.0) (by_max here.1 (max_cases (slice_index s.ack sender) b.synced))
        | inr other ↦ subst (λ (n : ℕ). HadSynced (logs_of g) s.view z n J) (sym other) (h normal led z (omega (arith, some, other)))
      ]
    where
      count : ℕ
      count = slice_index (with_ack s sender b.synced).ack z

      by_max : count ≡ max (slice_index s.ack sender) b.synced
          → (max (slice_index s.ack sender) b.synced ≡ slice_index s.ack sender) ⊎ (max (slice_index s.ack sender) b.synced ≡ b.synced)
          → HadSynced (logs_of g) s.view sender count J
      by_max is (inl old) = had_fewer g J s.view sender count (slice_index s.ack sender) (omega (arith, is, old))
          (h normal led sender (omega (arith, is, old, some)))
      by_max is (inr new) = had_fewer g J s.view sender count b.synced (omega (arith, is, new)) had

  module _ (y : ℕ) (r : Record) (K : List Record)
      (reported : (sender : ℕ) (b : SyncReportBody) → heard_by g y r.event ≡ Some (Replica sender, messages.SyncReport b)
      → HadSynced (logs_of g) b.view sender b.synced J)
    where
      counts_kept : (s t : ReplicaData) → Outcome g.f y r.event (heard_by g y r.event) s t → AreCounts y s → AreCounts y t
      counts_kept s _ Stays h = h
      counts_kept s _ (Release log normal more) h = h
      counts_kept s _ (Merge sender m u new normal) h = h
      counts_kept s _ (Sync sender b new hears le log changed) h = λ normal led. true_and_false (eqb (leader_of g.f s.view) y) led hears.follows
      counts_kept s _ (Tally sender b is normal led same few) h =
          tallied y sender b s (subst (λ (v : ℕ). HadSynced (logs_of g) v sender b.synced J) same (reported sender b is)) h
      counts_kept s _ (Enter w up later log grown) h = λ normal. absurd cc
      counts_kept s _ (Follow sender m u new w up later) h = λ normal. absurd cc
      counts_kept s _ (Answer sender b new normal same) h = h
      counts_kept s _ (Collect sender b new may base on) h = λ normal. absurd cc
      counts_kept s _ (Begin sender b new may base on full) h =
          λ normal led z some. absurd (let none = zeros (replica_count g.f) z in omega (arith, none, some))
      counts_kept s _ (Start sender b new may) h =
          λ normal led. absurd (((hears_fit g y r.event).hears sender _ new.is).other (may.leader ∙ eqb-true (leader_of g.f b.view) y led))
      counts_kept s _ (Fall e) h = λ normal. absurd cc
      counts_kept s _ (Wake nonce e down) h = λ normal. absurd cc
      counts_kept s _ (HearVector sender b new ours) h = λ normal. normal_no_rejoin s.status normal ours.rejoining
      counts_kept s _ (Count sender b new ours many) h = λ normal. normal_no_rejoin s.status normal ours.rejoining
      counts_kept s _ (HearView sender b new ours) h = λ normal. normal_no_rejoin s.status normal ours.rejoining
      counts_kept s _ (Forget sender b new ours) h = λ normal. normal_no_rejoin s.status normal ours.rejoining
      counts_kept s _ (AskLog sender b new ours many) h = λ normal. normal_no_rejoin s.status normal ours.rejoining
      counts_kept s _ (Return sender b new ours late leader) h =
          λ normal led. absurd (((hears_fit g y r.event).hears sender _ new.is).other (leader ∙ eqb-true (leader_of g.f b.view) y led))
      counts_kept s _ (Back rejoining phase) h = λ normal. normal_no_rejoin s.status normal rejoining

  module _ (w : World g J) where
    report_at : (y : ℕ) (r : Record) (K : List Record) → At J (r ∷ K) → r.actor ≡ Replica y → (sender : ℕ) (b : SyncReportBody)
        → heard_by g y r.event ≡ Some (Replica sender, messages.SyncReport b) → HadSynced (logs_of g) b.view sender b.synced J
    report_at y r K at a sender b heard =
        let had = report_source g y r K (at_world g J (r ∷ K) w at) a sender b heard in
        record { K = had.K; moment = at_then J K had.K (at_tail J r K at) had.moment; normal = had.normal; enough = had.enough }

    -- at each moment
    pub counts_at : (y : ℕ) (K : List Record) → At J K → AreCounts y (law_state_at g y K)
    counts_at y [] at = subst (AreCounts y) (sym (first_state g y))
        (λ normal led z some. absurd (let none = zeros (replica_count g.f) z in omega (arith, none, some)))
    counts_at y (r ∷ K) at =
        let old = counts_at y K (at_tail J r K at) in
        elim (steps g y r K) [
          | Acts a outcome ↦ counts_kept y r K (report_at y r K at a) (law_state_at g y K) (law_state_at g y (r ∷ K)) outcome old
          | Rests e same ↦ subst (AreCounts y) (sym same) old
        ]
