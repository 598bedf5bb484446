-- What the members of a later begin report of a view: no state that is older than those in which they were Normal in
-- it, all that they had synced, and all that they sent fast-replies for.
use Rattle.std.proofs.Common.{◌≡◌, ℕ, ◌<◌, ◌≤◌, List, ◌∷◌, length, take, Some, sym, ap, subst, ◌∙◌, arith, inl, inr, ◌⊎◌}
use Rattle.std.proofs.lemmas.Bool.{cases_lt}
use Rattle.std.proofs.lemmas.List.{length-map, length-take-le}
use Rattle.std.proofs.Math.Seq.{take-length}
use Rattle.nz_base.specs.declared.key.Key.{Key}
use Rattle.nz_base.specs.declared.key.Entry.{Entry}
use Rattle.nz_base.specs.Log.{keys_of, IsLog}
use Rattle.nz_base.specs.Moments.{At}
use Rattle.nz_base.specs.Prefixes.{IsPrefix}
use Rattle.nz_base.proofs.Moments.{at_self, at_then, at_before, at_either}
use Rattle.nz_base.proofs.Prefixes.{prefix_take, prefix_then, prefix_length, shorter_prefix, both_prefixes}
use Rattle.nz_merge.specs.declared.report.Report.{Report}
use Rattle.nz_merge.specs.Merged.{IsFit}
use Rattle.nz_laws_commit.specs.States.{Normal, IsUp, Machine, place}
use Rattle.nz_laws_commit.specs.Supports.{keys_at, view_leader, IsNormal, IsUpIn, HadSynced, FastReplied}
use Rattle.nz_laws_commit.specs.Premises.{IsMemberReport}
use Rattle.nz_laws_commit.proofs.RunLaws.{RunLaws}

module _ {R : Type 0} (M : Machine R) (J : List R) (h : RunLaws M J) where
  pub normal_up : (y v : ℕ) (K : List R) → IsNormal M y v K → IsUp (M.state y K).status
  normal_up y v K n = subst IsUp (sym n.status) tt

  pub up_in : (y v : ℕ) (K : List R) → At J K → IsNormal M y v K → IsUpIn M y v K
  up_in y v K at n = record { up = normal_up y v K n; last = h.modes y K at n.status ∙ n.view }

  -- ---- a Normal leader

  -- a moment at which the leader of v has more at y's place is later
  pub is_later_with_more : (v y : ℕ) (K t : List R) → At J K → At J t → IsNormal M (view_leader M v) v K → IsNormal M (view_leader M v) v t
      → place (M.state (view_leader M v) K).vector y < place (M.state (view_leader M v) t).vector y
      → At t K × IsPrefix (keys_at M (view_leader M v) K) (keys_at M (view_leader M v) t)
  is_later_with_more v y K t at there n m more =
      let l = view_leader M v in
      elim (at_either J K t at there) [
        | inl later ↦
            let grows = subst (IsPrefix (M.lead v K)) (sym (h.lead_is v t there m)) (h.lead_grows v K t there later) in
            (later, subst (λ (ks : List Key). IsPrefix ks (keys_at M l t)) (sym (h.lead_is v K at n)) grows)
        | inr earlier ↦
            let grew = h.monotone l t K at (at_before K t earlier) (h.leader_is_one v t K there at m n) (normal_up l v t m) (normal_up l v K n) in
            let no_less = grew.vector y in
            absurd (omega (arith, more, no_less))
      ]

  -- ---- a replica that rejoined in the view

  -- the incarnation at L completed in v, by what the leader of v told at t
  pub record RejoinedIn (y v : ℕ) (L : List R) : Type 0 where
    pub C : List R
    pub t : List R
    pub at : At J C
    pub told_at : At J t
    pub after : At L C
    pub same : M.inc y C ≡ M.inc y L
    pub own : place (M.state y C).vector y ≡ place (M.state y L).vector y
    pub normal : IsNormal M y v C
    pub restarted : M.inc y t ≡ M.inc y C
    pub leader : IsNormal M (view_leader M v) v t
    pub log : keys_at M y C ≡ keys_at M (view_leader M v) t
    pub synced : (M.state y C).synced ≡ length (keys_at M y C)
    pub counter : place (M.state y C).vector y ≤ place (M.state (view_leader M v) t).vector y

  rejoined_in : (y v : ℕ) (K L : List R) → At J K → At J L → IsNormal M y v K → IsUp (M.state y L).status → M.inc y K < M.inc y L → (M.state y L).last ≡ v
      → RejoinedIn y v L
  rejoined_in y v K L at there n up newer last =
      let back = h.completed y L there up (omega (arith, newer)) in
      let C = back.C in
      let told = back.told in
      let C_at = at_then J L C there back.moment in
      let same_inc = back.same in
      let was = h.was_normal y v K C at C_at n back.completes (omega (arith, newer, same_inc)) in
      let most = back.last in
      let same : (M.state y C).view ≡ v = omega (arith, was, most, last) in
      record {
        C = C;
        t = back.t;
        at = C_at;
        told_at = at_then J C back.t C_at (at_before C back.t told.moment);
        after = back.moment;
        same = same_inc;
        own = back.own;
        normal = record { status = back.completes.normal; view = same };
        restarted = told.restarted;
        leader = subst (λ (x : ℕ). IsNormal M (view_leader M x) x back.t) same told.leader;
        log = told.log ∙ ap (λ (x : ℕ). keys_at M (view_leader M x) back.t) same;
        synced = told.synced ∙ sym (length-map (M.state y C).log (λ (e : Entry). e.key));
        counter = subst (λ (x : ℕ). place (M.state y C).vector y ≤ place (M.state (view_leader M x) back.t).vector y) same told.counter;
      }

  -- what it was told is synced at L, and the log begins with it
  told_stays : (y v : ℕ) (L : List R) → At J L → IsUpIn M y v L → (b : RejoinedIn y v L)
      → ((M.state y b.C).synced ≤ (M.state y L).synced) × IsPrefix (keys_at M y b.C) (keys_at M y L)
  told_stays y v L at up b =
      let at_C = up_in y v b.C b.at b.normal in
      let grew = h.monotone y b.C L at b.after b.same at_C.up up.up in
      let lasts : (M.state y b.C).last ≡ (M.state y L).last = at_C.last ∙ sym up.last in
      let whole : keys_at M y b.C ≡ take (M.state y b.C).synced (keys_at M y L) =
      sym (take-length (keys_at M y b.C)) ∙ ap (λ (k : ℕ). take k (keys_at M y b.C)) (sym b.synced) ∙ grew.entries lasts in
      (grew.synced lasts, subst (λ (ks : List Key). IsPrefix ks (keys_at M y L)) (sym whole) (prefix_take (M.state y b.C).synced (keys_at M y L)))

  -- the telling leader's moment is later than any of an earlier incarnation
  told_later : (y v : ℕ) (K L : List R) → At J K → M.inc y K < M.inc y L → (b : RejoinedIn y v L) → At b.t K
  told_later y v K L at newer b =
      elim (at_either J K b.t at b.told_at) [
        | inl later ↦ later
        | inr earlier ↦
            let grows = h.inc_grows y b.t K at (at_before K b.t earlier) in
            let restarted = b.restarted in
            let same = b.same in
            absurd (omega (arith, grows, restarted, same, newer))
      ]

  -- ---- one report of the begin of w, and a view v below w

  module _ (w v : ℕ) (lt : v < w) (c : Report) (r : IsMemberReport M w c J) where
    pub read_at : At J r.read
    read_at = elim r.is [
      | inl same ↦ subst (At J) (sym same) r.moment
      | inr began ↦ at_then J r.q r.read r.moment (subst (λ (q : List R). At q r.read) (sym began.1) (inr (at_self r.read)))
    ]

    -- the member is not Normal in v at or after the report
    not_after : (K : List R) → At J K → IsNormal M c.sender v K → At K r.q → ⊥
    not_after K at n later =
        let y = c.sender in
        let q = r.q in
        let view_K = n.view in
        elim (cases_lt (M.inc y q) (M.inc y K)) [
          | inl newer ↦
              let back = h.completed y K at (normal_up y v K n) (omega (arith, newer)) in
              let same = back.same in
              let member = r.later back.C (at_then J K back.C at back.moment) back.completes (omega (arith, newer, same)) in
              let view_C = back.view in
              omega (arith, member, view_C, view_K, lt)
          | inr no_newer ↦
              let grows = h.inc_grows y q K at later in
              let grew = h.monotone y q K at later (omega (arith, grows, no_newer)) r.up (normal_up y v K n) in
              let views = grew.view in
              let view_q = r.view in
              omega (arith, views, view_q, view_K, lt)
        ]

    -- the reported state is not older than one in v
    pub before_read : (K : List R) → At J K → IsNormal M c.sender v K → At r.read K
    before_read K at n =
        let q = r.q in
        elim (at_either J K q at r.moment) [
          | inr earlier ↦ absurd (not_after K at n (at_before K q earlier))
          | inl later ↦ elim r.is [
            | inl same ↦ subst (λ (x : List R). At x K) (sym same) later
            | inr began ↦ older began.0 began.1 (subst (λ (x : List R). At x K) began.1 later)
          ]
        ]
      where
        older : (x : R) → r.q ≡ x ∷ r.read → (K ≡ x ∷ r.read) ⊎ At r.read K → At r.read K
        older x e (inl same) = absurd (not_after K at n (subst (λ (z : List R). At z r.q) (e ∙ sym same) (at_self r.q)))
        older x e (inr there) = there

    -- nor than the state after a record in v
    pub before_read_too : (x : R) (K : List R) → At J K → At J (x ∷ K) → IsNormal M c.sender v K → (M.state c.sender (x ∷ K)).last ≡ v → At r.read (x ∷ K)
    before_read_too x K at more n last =
        let q = r.q in
        elim (at_either J (x ∷ K) q more r.moment) [
          | inr earlier ↦ absurd (not_after K at n earlier)
          | inl later ↦ elim r.is [
            | inl same ↦ subst (λ (z : List R). At z (x ∷ K)) (sym same) later
            | inr began ↦ older began.0 began.1 began.2 (subst (λ (z : List R). At z (x ∷ K)) began.1 later)
          ]
        ]
      where
        older : (z : R) → r.q ≡ z ∷ r.read → (M.state c.sender r.q).status ≡ Normal → (x ∷ K ≡ z ∷ r.read) ⊎ At r.read (x ∷ K) → At r.read (x ∷ K)
        older z e status (inr there) = there
        older z e status (inl same) =
            let mode = h.modes c.sender r.q r.moment status in
            let now : (M.state c.sender (x ∷ K)).last ≡ (M.state c.sender r.q).last = ap (λ (l : List R). (M.state c.sender l).last) (same ∙ sym e) in
            let view = r.view in
            absurd (omega (arith, mode, now, view, last, lt))

    -- the reported last view is not below v
    pub last_after : (K : List R) → At J K → IsNormal M c.sender v K → v ≤ c.last
    last_after K at n =
        let y = c.sender in
        let order = before_read K at n in
        let shown = r.last in
        elim (cases_lt (M.inc y K) (M.inc y r.read)) [
          | inl newer ↦
              let back = h.completed y r.read read_at r.read_up (omega (arith, newer)) in
              let same = back.same in
              let was = h.was_normal y v K back.C at (at_then J r.read back.C read_at back.moment) n back.completes (omega (arith, newer, same)) in
              let most = back.last in
              omega (arith, was, most, shown)
          | inr no_newer ↦
              let grows = h.inc_grows y K r.read read_at order in
              let grew = h.monotone y K r.read read_at order (omega (arith, grows, no_newer)) (normal_up y v K n) r.read_up in
              let lasts = grew.last in
              let own = (up_in y v K at n).last in
              omega (arith, lasts, own, shown)
        ]

    read_in : c.last ≡ v → IsUpIn M c.sender v r.read
    read_in e = record { up = r.read_up; last = sym r.last ∙ e }

    -- what was synced in v is synced in a report of v
    pub had_held : (count : ℕ) → HadSynced M v c.sender count J → c.last ≡ v → count ≤ c.synced
    had_held count had e =
        let y = c.sender in
        let K = had.K in
        let enough = had.enough in
        let shown = r.synced in
        let up = up_in y v K had.moment had.normal in
        elim (cases_lt (M.inc y K) (M.inc y r.read)) [
          | inl newer ↦
              let b = rejoined_in y v K r.read had.moment read_at had.normal r.read_up newer (sym r.last ∙ e) in
              let stays = told_stays y v r.read read_at (read_in e) b in
              let sound = (h.facts y K had.moment up.up).synced in
              let keys = length-map (M.state y K).log (λ (x : Entry). x.key) in
              let part = length-take-le (M.state y K).synced (keys_at M y K) (omega (arith, sound, keys)) in
              let synced = prefix_length (take (M.state y K).synced (keys_at M y K)) (M.lead v K) (h.synced_lead y v K had.moment up) in
              let grows = prefix_length (M.lead v K) (M.lead v b.t) (h.lead_grows v K b.t b.told_at (told_later y v K r.read had.moment newer b)) in
              let same = ap length (h.lead_is v b.t b.told_at b.leader) in
              let told = ap length b.log in
              let all = b.synced in
              let still = stays.0 in
              omega (arith, enough, shown, part, synced, grows, same, told, all, still)
          | inr no_newer ↦
              let order = before_read K had.moment had.normal in
              let grows = h.inc_grows y K r.read read_at order in
              let grew = h.monotone y K r.read read_at order (omega (arith, grows, no_newer)) up.up r.read_up in
              let still = grew.synced (up.last ∙ sym e ∙ r.last) in
              omega (arith, enough, shown, still)
        ]

    -- a report of v begins with what the member sent a fast-reply of v for, if the leader had the vector and as long
    -- a log
    pub fast_held : (P : List Key) (u : List ℕ) (L : List R) → FastReplied M v c.sender P u J → At J L → IsNormal M (view_leader M v) v L
        → (M.state (view_leader M v) L).vector ≡ u → length P ≤ length (keys_at M (view_leader M v) L)
        → IsPrefix P (M.lead v J) → c.last ≡ v → IsPrefix P (keys_of c.log)
    fast_held P u L over L_at leads vector long prefix e =
        let y = c.sender in
        let l = view_leader M v in
        let K = over.K in
        let now = over.r ∷ K in
        let K_at : At J K = at_then J now K over.moment (inr (at_self K)) in
        let order = before_read_too over.r K K_at over.moment over.normal over.after.last in
        let in_read : IsPrefix P (keys_at M y r.read) = elim (cases_lt (M.inc y now) (M.inc y r.read)) [
          | inl newer ↦
              let grows = h.inc_grows y K now over.moment (inr (at_self K)) in
              let b = rejoined_in y v K r.read K_at read_at over.normal r.read_up (omega (arith, newer, grows)) (sym r.last ∙ e) in
              let rise = h.rise y now r.read over.moment read_at over.after.up r.read_up newer in
              let same : place (M.state y now).vector y ≡ place (M.state l L).vector y = ap (λ (x : List ℕ). place x y) (over.vector ∙ sym vector) in
              let own = b.own in
              let counter = b.counter in
              let leads_later = is_later_with_more v y L b.t L_at b.told_at leads b.leader (omega (arith, rise, same, own, counter)) in
              let in_leader : IsPrefix P (keys_at M l L) = shorter_prefix P (keys_at M l L) (M.lead v J) prefix
              (subst (λ (ks : List Key). IsPrefix ks (M.lead v J)) (sym (h.lead_is v L L_at leads)) (h.lead_grows v L J (at_self J) L_at)) long in
              let in_told : IsPrefix P (keys_at M l b.t) = prefix_then P (keys_at M l L) (keys_at M l b.t) in_leader leads_later.1 in
              prefix_then P (keys_at M y b.C) (keys_at M y r.read) (subst (IsPrefix P) (sym b.log) in_told) (told_stays y v r.read read_at (read_in e) b).1
          | inr no_newer ↦
              let grows = h.inc_grows y now r.read read_at order in
              let either = both_prefixes P (M.lead v r.read) (M.lead v J) prefix (h.lead_grows v r.read J (at_self J) read_at) in
              h.fast_stays y v P now r.read read_at order (omega (arith, grows, no_newer)) over.after (read_in e) over.holds either
        ] in
        subst (λ (log : List Entry). IsPrefix P (keys_of log)) (sym r.log) in_read

    -- ---- the report itself

    pub report_fit : IsFit c
    report_fit =
        let sound = h.facts c.sender r.read read_at r.read_up in
        let synced = sound.synced in
        let shown = r.synced in
        let long = ap length r.log in
        record { log = subst IsLog (sym r.log) sound.log; synced = omega (arith, synced, shown, long) }

    in_last : IsUpIn M c.sender c.last r.read
    in_last = record { up = r.read_up; last = sym r.last }

    -- the synced part is the leader's
    pub report_synced : IsPrefix (take c.synced (keys_of c.log)) (M.lead c.last J)
    report_synced =
        let own = h.synced_lead c.sender c.last r.read read_at in_last in
        let same : take (M.state c.sender r.read).synced (keys_at M c.sender r.read) ≡ take c.synced (keys_of c.log) =
        ap (λ (k : ℕ). take k (keys_at M c.sender r.read)) (sym r.synced) ∙ ap (λ (log : List Entry). take c.synced (keys_of log)) (sym r.log) in
        let part = subst (λ (ks : List Key). IsPrefix ks (M.lead c.last r.read)) same own in
        prefix_then (take c.synced (keys_of c.log)) (M.lead c.last r.read) (M.lead c.last J) part (h.lead_grows c.last r.read J (at_self J) read_at)

    -- what its last view began with is synced
    pub report_started : 0 < c.last → (T : List Key) × (M.start c.last J ≡ Some T) × (length T ≤ c.synced) × IsPrefix T (M.lead c.last J)
    report_started some =
        let began = h.begun c.sender c.last r.read read_at some in_last in
        let still = h.start_stays c.last began.0 r.read J (at_self J) read_at began.1 in
        let synced = h.start_synced c.sender c.last began.0 r.read read_at in_last began.1 in
        let shown = r.synced in
        (began.0, still, omega (arith, synced, shown), h.starts c.last began.0 J (at_self J) still)
