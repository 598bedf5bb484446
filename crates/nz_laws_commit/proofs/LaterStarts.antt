-- Each later view begins with what is supported in a view, and of two supported lists one begins with the other.
use Rattle.std.proofs.Common.{◌≡◌, ℕ, ◌<◌, ◌≤◌, true, eqb, List, [], ◌∷◌, length, take, Some, refl, sym, ap, subst, ◌∙◌, arith, inl, inr, ◌⊎◌}
use Rattle.std.proofs.lemmas.Bool.{cases_lt, eq-eqb}
use Rattle.std.proofs.lemmas.List.{length-map, length-take-le}
use Rattle.std.specs.List.{Contains}
use Rattle.std.proofs.lemmas.List.Elements.{All-contains, All-weaker, recursion_from_All}
use Rattle.nz_base.specs.declared.key.Key.{Key}
use Rattle.nz_base.specs.declared.key.Entry.{Entry}
use Rattle.nz_base.specs.Log.{keys_of}
use Rattle.nz_base.specs.Moments.{At}
use Rattle.nz_base.specs.Prefixes.{IsPrefix, Comparable}
use Rattle.nz_base.proofs.Moments.{at_self, at_then}
use Rattle.nz_base.proofs.Prefixes.{prefix_then, prefix_take, shorter_prefix, both_prefixes, comparable_back}
use Rattle.nz_math.specs.Count.{is_in}
use Rattle.nz_math.proofs.Upto.{upto}
use Rattle.nz_merge.specs.declared.report.Report.{Report}
use Rattle.nz_merge.specs.Merged.{AreFit, IsFit, latest_reports, merged_synced_part, merged}
use Rattle.nz_merge.proofs.Senders.{slow_member}
use Rattle.nz_merge.proofs.Bases.{last_of, IsBase, within_greatest, base_of, synced_stays, fast_count, fast_stays}
use Rattle.nz_laws_commit.specs.States.{Machine}
use Rattle.nz_laws_commit.specs.Supports.{IsNormal, HadSynced, FastReplied, SlowSupport, FastSupport, Support, InLaterStarts, view_leader}
use Rattle.nz_laws_commit.specs.Premises.{IsMemberReport, IsMergeOfReports}
use Rattle.nz_laws_commit.proofs.RunLaws.{RunLaws}
use Rattle.nz_laws_commit.proofs.Reports as reports

module _ {R : Type 0} (M : Machine R) (J : List R) (h : RunLaws M J) (v : ℕ) (P : List Key) (s : Support M v P J) where
  -- each supporter was Normal in v
  was_in : (y : ℕ) (u : List ℕ) → HadSynced M v y (length P) J ⊎ FastReplied M v y P u J → (K : List R) × At J K × IsNormal M y v K
  was_in y u (inl had) = (had.K, had.moment, had.normal)
  was_in y u (inr over) = (over.K, at_then J (over.r ∷ over.K) over.K over.moment (inr (at_self over.K)), over.normal)

  module _ (w : ℕ) (lt : v < w) (S : List Key) (start : M.start w J ≡ Some S) (b : IsMergeOfReports M w S J) where
    report : (c : Report) → Contains b.reports c → IsMemberReport M w c J
    report c among = All-contains (λ (d : Report). IsMemberReport M w d J) b.reports c b.members among

    fit : AreFit b.reports
    fit =
        let each = All-weaker (λ (c : Report). IsMemberReport M w c J) IsFit (λ c r. reports.report_fit M J h w v lt c r) b.reports b.members in
        recursion_from_All IsFit b.reports each

    -- the synced part that is merged, and the greatest last view
    abbrev base_keys : List Key
    base_keys = keys_of (merged_synced_part (latest_reports b.reports))

    abbrev greatest_last : ℕ
    greatest_last = last_of b.reports

    base : IsBase b.reports
    base = base_of b.reports (let size = b.size in omega (arith, size))

    base_report : IsMemberReport M w base.c J
    base_report = report base.c base.among

    -- the base is the first keys of the leader's log, as many as the report has synced
    base_lead : IsPrefix base_keys (M.lead greatest_last J)
    base_lead =
        let part = reports.report_synced M J h w v lt base.c base_report in
        let in_greatest = subst (λ (g : ℕ). IsPrefix (take base.c.synced (keys_of base.c.log)) (M.lead g J)) base.last part in
        subst (λ (ks : List Key). IsPrefix ks (M.lead greatest_last J)) (sym base.is) in_greatest

    base_long : length base_keys ≡ base.c.synced
    base_long =
        let sound = (reports.report_fit M J h w v lt base.c base_report).synced in
        let keys = length-map base.c.log (λ (e : Entry). e.key) in
        ap length base.is ∙ length-take-le base.c.synced (keys_of base.c.log) (omega (arith, sound, keys))

    -- the reports of who was Normal in v are of no lower view
    pub reaches : (c : Report) → Contains b.reports c → (K : List R) × At J K × IsNormal M c.sender v K → v ≤ c.last
    reaches c among n = reports.last_after M J h w v lt c (report c among) n.0 n.1 n.2

    within : (c : Report) → Contains b.reports c → c.last ≤ greatest_last
    within c among = within_greatest (λ (d : Report). d.last) b.reports c among

    -- case 1: the greatest last view is above v, and began with P
    above : v < greatest_last → ((T : List Key) → M.start greatest_last J ≡ Some T → IsPrefix P T) → IsPrefix P (keys_of (merged M.f b.reports))
    above more ih =
        let last = base.last in
        let started = reports.report_started M J h w v lt base.c base_report (omega (arith, last, more)) in
        let T = started.0 in
        let in_T = ih T (subst (λ (g : ℕ). M.start g J ≡ Some T) last started.1) in
        let T_lead : IsPrefix T (M.lead greatest_last J) = subst (λ (g : ℕ). IsPrefix T (M.lead g J)) last started.3 in
        let few = started.2 in
        let T_base = shorter_prefix T base_keys (M.lead greatest_last J) T_lead base_lead (omega (arith, few, base_long)) in
        synced_stays M.f b.reports P (prefix_then P T base_keys in_T T_base)

    -- case 2: a slow quorum, and the greatest last view is v
    slow : greatest_last ≡ v → SlowSupport M v P J → IsPrefix P (keys_of (merged M.f b.reports))
    slow same q =
        let shared = slow_member M.f q.members b.reports q.choice q.enough b.choice b.size in
        let c = shared.0 in
        let had = q.each c.sender shared.2 in
        let low = reaches c shared.1 (had.K, had.moment, had.normal) in
        let high = within c shared.1 in
        let held = reports.had_held M J h w v lt c (report c shared.1) (length P) had (omega (arith, low, high, same)) in
        let most = base.most c shared.1 (omega (arith, low, high, same)) in
        let lead = subst (λ (g : ℕ). IsPrefix base_keys (M.lead g J)) same base_lead in
        synced_stays M.f b.reports P (shorter_prefix P base_keys (M.lead v J) s.lead lead (omega (arith, held, most, base_long)))

    -- case 3: a fast quorum
    fast : greatest_last ≡ v → FastSupport M v P J → IsPrefix P (keys_of (merged M.f b.reports))
    fast same q =
        let reports = b.reports in
        let lead : IsPrefix base_keys (M.lead v J) = subst (λ (g : ℕ). IsPrefix base_keys (M.lead g J)) same base_lead in
        let enough = fast_count M.f q.members reports P q.choice q.enough b.choice b.size (λ c among member. holds c among (q.each c.sender member)) in
        fast_stays M.f reports P fit b.size enough (both_prefixes P base_keys (M.lead v J) s.lead lead)
      where
        held : (c : Report) (among : Contains b.reports c) → c.last ≡ v → HadSynced M v c.sender (length P) J ⊎ FastReplied M v c.sender P q.u J
            → IsPrefix P (keys_of c.log)
        held c among e (inr over) = reports.fast_held M J h w v lt c (report c among) P q.u q.K over q.moment q.normal q.vector q.long s.lead e
        held c among e (inl had) =
            let from = report c among in
            let count = reports.had_held M J h w v lt c from (length P) had e in
            let sound = (reports.report_fit M J h w v lt c from).synced in
            let keys = length-map c.log (λ (x : Entry). x.key) in
            let long = length-take-le c.synced (keys_of c.log) (omega (arith, sound, keys)) in
            let T = take c.synced (keys_of c.log) in
            let part = subst (λ (g : ℕ). IsPrefix (take c.synced (keys_of c.log)) (M.lead g J)) e (reports.report_synced M J h w v lt c from) in
            prefix_then P T (keys_of c.log) (shorter_prefix P T (M.lead v J) s.lead part (omega (arith, count, long))) (prefix_take c.synced (keys_of c.log))

        holds : (c : Report) → Contains b.reports c → HadSynced M v c.sender (length P) J ⊎ FastReplied M v c.sender P q.u J
            → (c.last ≡ greatest_last) × IsPrefix P (keys_of c.log)
        holds c among support =
            let low = reaches c among (was_in c.sender q.u support) in
            let high = within c among in
            let last : c.last ≡ v = omega (arith, low, high, same) in
            (last ∙ sym same, held c among last support)

    -- v is not above the greatest last view
    not_below : v ≤ greatest_last
    not_below = elim s.quorum [
      | inl q ↦
          let shared = slow_member M.f q.members b.reports q.choice q.enough b.choice b.size in
          let had = q.each shared.0.sender shared.2 in
          let low = reaches shared.0 shared.1 (had.K, had.moment, had.normal) in
          let high = within shared.0 shared.1 in
          omega (arith, low, high)
      | inr q ↦
          let enough = q.enough in
          let shared = slow_member M.f q.members b.reports q.choice (omega (arith, enough)) b.choice b.size in
          let low = reaches shared.0 shared.1 (was_in shared.0.sender q.u (q.each shared.0.sender shared.2)) in
          let high = within shared.0 shared.1 in
          omega (arith, low, high)
    ]

    merged_has : ((g : ℕ) → g < w → (T : List Key) → v < g → M.start g J ≡ Some T → IsPrefix P T) → IsPrefix P (keys_of (merged M.f b.reports))
    merged_has ih =
        let low = base_report.low in
        let last = base.last in
        elim (cases_lt v greatest_last) [
          | inl more ↦ above more (λ T began. ih greatest_last (omega (arith, low, last)) T more began)
          | inr no_more ↦
              let same : greatest_last ≡ v = omega (arith, no_more, not_below) in
              elim s.quorum [
                | inl q ↦ slow same q
                | inr q ↦ fast same q
              ]
        ]

  step : (w : ℕ) → ((g : ℕ) → g < w → (T : List Key) → v < g → M.start g J ≡ Some T → IsPrefix P T) → (S : List Key) → v < w → M.start w J ≡ Some S
      → IsPrefix P S
  step w ih S lt start =
      let b = h.begins w S (omega (arith, lt)) start in
      subst (IsPrefix P) (sym b.merged) (merged_has w lt S start b ih)

  pub in_later_starts : InLaterStarts M J v P
  in_later_starts w S lt start = upto (λ (x : ℕ). (T : List Key) → v < x → M.start x J ≡ Some T → IsPrefix P T) step w S lt start

some_in : (ys : List ℕ) → 0 < length ys → (y : ℕ) × (is_in ys y ≡ true)
some_in [] some = absurd (omega (arith, some))
some_in (y ∷ ys) some = let here : eqb y y ≡ true = eq-eqb y y refl in (y, rw here refl)

module _ {R : Type 0} (M : Machine R) (J : List R) (h : RunLaws M J) where
  begun_by : (v y : ℕ) (K : List R) → 0 < v → At J K → IsNormal M y v K → (S : List Key) × (M.start v J ≡ Some S)
  begun_by v y K some at n =
      let began = h.begun y v K at some (reports.up_in M J h y v K at n) in
      (began.0, h.start_stays v began.0 K J (at_self J) at began.1)

  -- a view of which something is supported has begun
  begun_of : (v : ℕ) (P : List Key) → 0 < v → Support M v P J → (S : List Key) × (M.start v J ≡ Some S)
  begun_of v P some s = elim s.quorum [
    | inl q ↦
        let enough = q.enough in
        let y = some_in q.members (omega (arith, enough)) in
        let had = q.each y.0 y.1 in
        begun_by v y.0 had.K some had.moment had.normal
    | inr q ↦ begun_by v (view_leader M v) q.K some q.moment q.normal
  ]

  in_later : (v w : ℕ) (P Q : List Key) → v < w → Support M v P J → Support M w Q J → Comparable P Q
  in_later v w P Q lt s t =
      let began = begun_of w Q (omega (arith, lt)) t in
      let S = began.0 in
      both_prefixes P Q (M.lead w J) (prefix_then P S (M.lead w J) (in_later_starts M J h v P s w S lt began.1) (h.starts w S J (at_self J) began.1)) t.lead

  -- of two lists with support one begins with the other, in whatever views
  pub pairs : (v w : ℕ) (P Q : List Key) → Support M v P J → Support M w Q J → Comparable P Q
  pairs v w P Q s t = elim (cases_lt v w) [
    | inl lt ↦ in_later v w P Q lt s t
    | inr no_lt ↦ elim (cases_lt w v) [
      | inl gt ↦ comparable_back Q P (in_later w v Q P gt t s)
      | inr no_gt ↦
          let same : w ≡ v = omega arith in
          both_prefixes P Q (M.lead v J) s.lead (subst (λ (x : ℕ). IsPrefix Q (M.lead x J)) same t.lead)
    ]
  ]
