-- From what holds of each record to pairs of moments: the leader's log of a view grows, nothing falls within an
-- incarnation, and a prefix that is comparable with the leader's log stays.
use Rattle.std.proofs.Common.{◌≡◌, ℕ, suc, ◌≤◌, Bool, true, false, ◌&&◌, cond, eqb, List, [], ◌∷◌, take}
use Rattle.std.proofs.Common.{Option, Some, None, refl, sym, ap, subst, ◌∙◌, arith, inl, inr, ◌⊎◌}
use Rattle.std.proofs.lemmas.Bool.{eq-eqb, eqb-true, cases_Bool, and_parts, and_from}
use Rattle.std.proofs.lemmas.List.{take-take}
use Rattle.std.proofs.lemmas.Option.{none-some, same_Some}
use Rattle.std.specs.Option.{option_or}
use Rattle.nz_base.specs.declared.key.Key.{Key}
use Rattle.nz_base.specs.Log.{keys_of}
use Rattle.nz_base.specs.Cluster.{leader_of}
use Rattle.nz_base.specs.Moments.{At}
use Rattle.nz_base.specs.Prefixes.{IsPrefix, Comparable}
use Rattle.nz_base.proofs.Moments.{at_tail}
use Rattle.nz_base.proofs.Prefixes.{prefix_self, prefix_same, prefix_none, prefix_then, comparable_prefix}
use Rattle.nz_laws_commit.specs.States.{Status, Normal, ViewChange, Rejoining, Down, IsUp, LogState, Machine, place}
use Rattle.nz_laws_commit.specs.Supports.{IsNormal, IsUpIn, keys_at}
use Rattle.nz_laws_commit.specs.Machines.{is_normal, is_down, GroupStates, leads_by, inc_of, lead_of, start_of, machine_of}
use Rattle.nz_laws_commit.proofs.RunLaws.{HasGrown, RunLaws, RecordLaws, StepLaws}

normal_is : (s : Status) → is_normal s ≡ true → s ≡ Normal
normal_is Normal h = refl
normal_is ViewChange h = absurd cc
normal_is Rejoining h = absurd cc
normal_is Down h = absurd cc

pub never_up : {A : Type 0} (s : Status) → IsUp s → s ≡ Down → A
never_up s up e = absurd (subst IsUp e up)

-- lists with the same first items have the same of fewer
take_less : {X : Type 0} (a b : ℕ) (xs ys : List X) → a ≤ b → take b xs ≡ take b ys → take a xs ≡ take a ys
take_less a b xs ys le e = sym (take-take a b xs le) ∙ ap (take a) e ∙ take-take a b ys le

module _ {R : Type 0} (g : GroupStates R) where
  abbrev M : Machine R
  M = machine_of g

  -- the keys of the leader of a view
  abbrev led_keys : ℕ → List R → List Key
  led_keys v K = keys_at M (leader_of g.f v) K

  -- ---- incarnations

  inc_cases : (b : Bool) (n : ℕ) → n ≤ cond b (suc n) n
  inc_cases true n = omega arith
  inc_cases false n = omega arith

  inc_step : (m : ℕ) (r : R) (K : List R) → inc_of g m K ≤ inc_of g m (r ∷ K)
  unfolding inc_of
  inc_step m r K = inc_cases (g.by r m && (g.restarts r && is_down (g.state m K).status)) (inc_of g m K)

  inc_restart : (m : ℕ) (r : R) (K : List R) → g.by r m ≡ true → g.restarts r ≡ true → (g.state m K).status ≡ Down → inc_of g m (r ∷ K) ≡ suc (inc_of g m K)
  unfolding inc_of
  inc_restart m r K acts restarts down =
      let test : (g.by r m && (g.restarts r && is_down (g.state m K).status)) ≡ true =
      and_from (g.by r m) (g.restarts r && is_down (g.state m K).status) acts
      (and_from (g.restarts r) (is_down (g.state m K).status) restarts (ap is_down down)) in
      ap (λ (b : Bool). cond b (suc (inc_of g m K)) (inc_of g m K)) test

  pub inc_grows : (m : ℕ) (K L : List R) → At L K → inc_of g m K ≤ inc_of g m L
  inc_grows m K [] same = subst (λ (x : List R). inc_of g m x ≤ inc_of g m []) (sym same) (omega arith)
  inc_grows m K (r ∷ L) (inl same) = subst (λ (x : List R). inc_of g m x ≤ inc_of g m (r ∷ L)) (sym same) (omega arith)
  inc_grows m K (r ∷ L) (inr older) = let rest = inc_grows m K L older in let one = inc_step m r L in omega (arith, rest, one)

  -- ---- begins

  pub start_step : (v : ℕ) (S : List Key) (r : R) (K : List R) → start_of g v K ≡ Some S → start_of g v (r ∷ K) ≡ Some S
  unfolding start_of
  start_step v S r K e = ap (λ (o : Option (List Key)). option_or o (cond (leads_by g v r K) (Some (led_keys v (r ∷ K))) None)) e

  pub start_stays : (v : ℕ) (S : List Key) (K L : List R) → At L K → start_of g v K ≡ Some S → start_of g v L ≡ Some S
  start_stays v S K [] same e = subst (λ (x : List R). start_of g v x ≡ Some S) same e
  start_stays v S K (r ∷ L) (inl same) e = subst (λ (x : List R). start_of g v x ≡ Some S) same e
  start_stays v S K (r ∷ L) (inr older) e = start_step v S r L (start_stays v S K L older e)

  -- before a view begins its leader has no log of it
  no_lead : (v : ℕ) (K : List R) → start_of g v K ≡ None → lead_of g v K ≡ []
  unfolding start_of lead_of
  no_lead v [] e = refl
  no_lead v (r ∷ K) e = go (start_of g v K) refl (leads_by g v r K) e (no_lead v K)
    where
      log : List Key
      log = keys_of (g.state (leader_of g.f v) (r ∷ K)).log

      go : (o : Option (List Key)) → start_of g v K ≡ o → (b : Bool)
          → option_or o (cond b (Some (led_keys v (r ∷ K))) None) ≡ None → (start_of g v K ≡ None → lead_of g v K ≡ [])
          → cond b (led_keys v (r ∷ K)) (lead_of g v K) ≡ []
      go (Some S) is b none rest = absurd cc
      go None is true none rest = absurd cc
      go None is false none rest = rest is

  module _ (J : List R) (s : RecordLaws g J) where
    -- ---- leaders' logs grow

    pub leads_is : (v : ℕ) (r : R) (K : List R) → leads_by g v r K ≡ true → (g.by r (leader_of g.f v) ≡ true) × IsNormal M (leader_of g.f v) v (r ∷ K)
    leads_is v r K e =
        let l = leader_of g.f v in
        let z = g.state l (r ∷ K) in
        let rest = (and_parts (g.by r l) (is_normal z.status && eqb z.view v) e).1 in
        let status = (and_parts (is_normal z.status) (eqb z.view v) rest).0 in
        let view = (and_parts (is_normal z.status) (eqb z.view v) rest).1 in
        ((and_parts (g.by r l) (is_normal z.status && eqb z.view v) e).0, record { status = normal_is z.status status; view = eqb-true z.view v view })

    pub leads_test : (v : ℕ) (r : R) (K : List R) → g.by r (leader_of g.f v) ≡ true → IsNormal M (leader_of g.f v) v (r ∷ K) → leads_by g v r K ≡ true
    leads_test v r K acts n =
        let l = leader_of g.f v in
        let z = g.state l (r ∷ K) in
        let normal = and_from (is_normal z.status) (eqb z.view v) (ap is_normal n.status) (eq-eqb z.view v n.view) in
        and_from (g.by r l) (is_normal z.status && eqb z.view v) acts normal

    pub lead_is : (v : ℕ) (K : List R) → At J K → IsNormal M (leader_of g.f v) v K → led_keys v K ≡ lead_of g v K
    unfolding lead_of
    lead_is v [] at n = ap keys_of (s.first (leader_of g.f v))
    lead_is v (r ∷ K) at n = by_actor (cases_Bool (g.by r (leader_of g.f v))) (lead_is v K (at_tail J r K at))
      where
        by_actor : (g.by r (leader_of g.f v) ≡ true) ⊎ (g.by r (leader_of g.f v) ≡ false)
            → (IsNormal M (leader_of g.f v) v K → led_keys v K ≡ lead_of g v K)
            → led_keys v (r ∷ K) ≡ cond (leads_by g v r K) (led_keys v (r ∷ K)) (lead_of g v K)
        by_actor (inl acts) rest =
            sym (ap (λ (b : Bool). cond b (led_keys v (r ∷ K)) (lead_of g v K)) (leads_test v r K acts n))
        by_actor (inr other) rest =
            let l = leader_of g.f v in
            let z = g.state l (r ∷ K) in
            let same = s.stays l r K at other in
            let test : leads_by g v r K ≡ false = ap (λ (b : Bool). b && (is_normal z.status && eqb z.view v)) other in
            let before : IsNormal M l v K = record {
              status = sym (ap (λ (x : LogState). x.status) same) ∙ n.status;
              view = sym (ap (λ (x : LogState). x.view) same) ∙ n.view;
            } in
            ap (λ (x : LogState). keys_of x.log) same ∙ rest before ∙ sym (ap (λ (b : Bool). cond b (led_keys v (r ∷ K)) (lead_of g v K)) test)

    pub lead_step : (v : ℕ) (r : R) (K : List R) → At J (r ∷ K) → IsPrefix (lead_of g v K) (lead_of g v (r ∷ K))
    unfolding lead_of
    lead_step v r K at = by_test (leads_by g v r K) refl
      where
        by_test : (b : Bool) → leads_by g v r K ≡ b → IsPrefix (lead_of g v K) (cond b (led_keys v (r ∷ K)) (lead_of g v K))
        by_test false e = prefix_self (lead_of g v K)
        by_test true e =
            let l = leader_of g.f v in
            let leads = leads_is v r K e in
            elim (s.begins_once v r K at leads.0 leads.1) [
              | inl none ↦ subst (λ (ks : List Key). IsPrefix ks (led_keys v (r ∷ K))) (sym (no_lead v K none)) (prefix_none (led_keys v (r ∷ K)))
              | inr before ↦
                  let same = lead_is v K (at_tail J r K at) before in
                  subst (λ (ks : List Key). IsPrefix ks (led_keys v (r ∷ K))) same (s.releases v r K at leads.0 before leads.1)
            ]

    pub lead_grows : (v : ℕ) (K L : List R) → At J L → At L K → IsPrefix (lead_of g v K) (lead_of g v L)
    lead_grows v K [] at same = subst (λ (x : List R). IsPrefix (lead_of g v x) (lead_of g v [])) (sym same) (prefix_self (lead_of g v []))
    lead_grows v K (r ∷ L) at (inl same) =
        subst (λ (x : List R). IsPrefix (lead_of g v x) (lead_of g v (r ∷ L))) (sym same) (prefix_self (lead_of g v (r ∷ L)))
    lead_grows v K (r ∷ L) at (inr older) =
        prefix_then (lead_of g v K) (lead_of g v L) (lead_of g v (r ∷ L)) (lead_grows v K L (at_tail J r L at) older) (lead_step v r L at)

    -- the log of a view's leader begins with the view's start
    pub starts : (v : ℕ) (S : List Key) (K : List R) → At J K → start_of g v K ≡ Some S → IsPrefix S (lead_of g v K)
    unfolding start_of lead_of
    starts v S [] at e = by_test (eqb v 0) e
      where
        by_test : (b : Bool) → cond b (Some []) None ≡ Some S → IsPrefix S []
        by_test true e = prefix_same S [] (same_Some [] S e)
        by_test false e = absurd (none-some S e)
    starts v S (r ∷ K) at e = go (start_of g v K) refl (leads_by g v r K) refl e (starts v S K (at_tail J r K at)) (lead_step v r K at)
      where
        go : (o : Option (List Key)) → start_of g v K ≡ o → (b : Bool) → leads_by g v r K ≡ b
            → option_or o (cond b (Some (led_keys v (r ∷ K))) None) ≡ Some S
            → (start_of g v K ≡ Some S → IsPrefix S (lead_of g v K)) → IsPrefix (lead_of g v K) (cond (leads_by g v r K) (led_keys v (r ∷ K)) (lead_of g v K))
            → IsPrefix S (cond (leads_by g v r K) (led_keys v (r ∷ K)) (lead_of g v K))
        go (Some T) is b test same rest one =
            prefix_then S (lead_of g v K) (cond (leads_by g v r K) (led_keys v (r ∷ K)) (lead_of g v K)) (rest (is ∙ same)) one
        go None is true test same rest one = rw test (prefix_same S (led_keys v (r ∷ K)) (same_Some (led_keys v (r ∷ K)) S same))
        go None is false test same rest one = absurd (none-some S same)

    -- ---- up between two moments of one incarnation at which the replica is up

    -- who is down is down after a record, or in the next incarnation
    down_step : (y : ℕ) (r : R) (K : List R) → At J (r ∷ K) → (g.state y K).status ≡ Down
        → ((g.state y (r ∷ K)).status ≡ Down) ⊎ (inc_of g y (r ∷ K) ≡ suc (inc_of g y K))
    down_step y r K at down =
        elim (cases_Bool (g.by r y)) [
          | inr other ↦ inl (ap (λ (z : LogState). z.status) (s.stays y r K at other) ∙ down)
          | inl acts ↦ elim (s.rests y r K at acts down) [
            | inl still ↦ inl still
            | inr restarts ↦ inr (inc_restart y r K acts restarts down)
          ]
        ]

    up_step : (y : ℕ) (r : R) (K : List R) → At J (r ∷ K) → IsUp (g.state y K).status → IsUp (g.state y (r ∷ K)).status ⊎ ((g.state y (r ∷ K)).status ≡ Down)
    up_step y r K at up =
        elim (cases_Bool (g.by r y)) [
          | inr other ↦ inl (subst IsUp (sym (ap (λ (z : LogState). z.status) (s.stays y r K at other))) up)
          | inl acts ↦ s.falls y r K at acts up
        ]

    -- of K not later than L, and a record after L of the same incarnation
    same_before : (y : ℕ) (K L : List R) (r : R) → At L K → inc_of g y K ≡ inc_of g y (r ∷ L) → inc_of g y K ≡ inc_of g y L
    same_before y K L r older same = let a = inc_grows y K L older in let b = inc_step y r L in omega (arith, a, b, same)

    up_or_down : (y : ℕ) (K L : List R) → At J L → At L K → inc_of g y K ≡ inc_of g y L → IsUp (g.state y K).status
        → IsUp (g.state y L).status ⊎ ((g.state y L).status ≡ Down)
    up_or_down y K [] at here same up = inl (subst (λ (x : List R). IsUp (g.state y x).status) here up)
    up_or_down y K (r ∷ L) at (inl here) same up = inl (subst (λ (x : List R). IsUp (g.state y x).status) here up)
    up_or_down y K (r ∷ L) at (inr older) same up =
        let before = same_before y K L r older same in
        elim (up_or_down y K L (at_tail J r L at) older before up) [
          | inl now ↦ up_step y r L at now
          | inr down ↦ elim (down_step y r L at down) [
            | inl still ↦ inr still
            | inr newer ↦ absurd (omega (arith, before, newer, same))
          ]
        ]

    up_before : (y : ℕ) (K L : List R) (r : R) → At J (r ∷ L) → At L K → inc_of g y K ≡ inc_of g y (r ∷ L) → IsUp (g.state y K).status
        → IsUp (g.state y (r ∷ L)).status → IsUp (g.state y L).status
    up_before y K L r at older same up now =
        let before = same_before y K L r older same in
        elim (up_or_down y K L (at_tail J r L at) older before up) [
          | inl there ↦ there
          | inr down ↦ elim (down_step y r L at down) [
            | inl still ↦ never_up (g.state y (r ∷ L)).status now still
            | inr newer ↦ absurd (omega (arith, before, newer, same))
          ]
        ]

    -- ---- nothing falls while the replica is up

    pub grew_self : (y : ℕ) (K : List R) → HasGrown M y K K
    grew_self y K = record { view = omega arith; last = omega arith; vector = λ m. omega arith; own = refl; synced = λ e. omega arith; entries = λ e. refl }

    pub grew_same : (y : ℕ) (K L : List R) → g.state y L ≡ g.state y K → HasGrown M y K L
    grew_same y K L e = record {
      view = omega (arith, ap (λ (z : LogState). z.view) e);
      last = omega (arith, ap (λ (z : LogState). z.last) e);
      vector = λ m. omega (arith, ap (λ (z : LogState). place z.vector m) e);
      own = sym (ap (λ (z : LogState). place z.vector y) e);
      synced = λ last. omega (arith, ap (λ (z : LogState). z.synced) e);
      entries = λ last. ap (λ (z : LogState). take (g.state y K).synced (keys_of z.log)) (sym e);
    }

    pub grew_then : (y : ℕ) (K L N : List R) → HasGrown M y K L → HasGrown M y L N → HasGrown M y K N
    grew_then y K L N a b =
        let views = a.view in
        let more_views = b.view in
        let lasts = a.last in
        let more_lasts = b.last in
        record {
          view = omega (arith, views, more_views);
          last = omega (arith, lasts, more_lasts);
          vector = λ m. let one = a.vector m in let two = b.vector m in omega (arith, one, two);
          own = a.own ∙ b.own;
          synced = λ e.
              let one = a.synced (omega (arith, lasts, more_lasts, e)) in
              let two = b.synced (omega (arith, lasts, more_lasts, e)) in
              omega (arith, one, two);
          entries = λ e.
              let first : (g.state y K).last ≡ (g.state y L).last = omega (arith, lasts, more_lasts, e) in
              let second : (g.state y L).last ≡ (g.state y N).last = omega (arith, lasts, more_lasts, e) in
              a.entries first ∙ take_less (g.state y K).synced (g.state y L).synced (keys_at M y L) (keys_at M y N) (a.synced first) (b.entries second);
        }

    grew_step : (y : ℕ) (r : R) (K : List R) → At J (r ∷ K) → IsUp (g.state y K).status → IsUp (g.state y (r ∷ K)).status → HasGrown M y K (r ∷ K)
    grew_step y r K at up now =
        elim (cases_Bool (g.by r y)) [
          | inl acts ↦ s.grows y r K at acts up now
          | inr other ↦ grew_same y K (r ∷ K) (s.stays y r K at other)
        ]

    -- within an incarnation a replica that is up only grows
    pub monotone : (y : ℕ) (K L : List R) → At J L → At L K → inc_of g y K ≡ inc_of g y L → IsUp (g.state y K).status → IsUp (g.state y L).status
        → HasGrown M y K L
    monotone y K [] at here same up now = subst (λ (x : List R). HasGrown M y K x) here (grew_self y K)
    monotone y K (r ∷ L) at (inl here) same up now = subst (λ (x : List R). HasGrown M y K x) here (grew_self y K)
    monotone y K (r ∷ L) at (inr older) same up now =
        let there = up_before y K L r at older same up now in
        grew_then y K L (r ∷ L) (monotone y K L (at_tail J r L at) older (same_before y K L r older same) up there) (grew_step y r L at there now)

    -- ---- prefixes that are comparable with the leader's log stay

    earlier_lead : (v : ℕ) (P : List Key) (r : R) (K : List R) → At J (r ∷ K) → Comparable P (lead_of g v (r ∷ K)) → Comparable P (lead_of g v K)
    earlier_lead v P r K at either = comparable_prefix P (lead_of g v K) (lead_of g v (r ∷ K)) either (lead_step v r K at)

  module _ (J : List R) (s : StepLaws g J) where
    fast_step : (y v : ℕ) (P : List Key) (r : R) (K : List R) → At J (r ∷ K) → IsUpIn M y v K → IsUpIn M y v (r ∷ K) → IsPrefix P (keys_at M y K)
        → Comparable P (lead_of g v (r ∷ K))
        → IsPrefix P (keys_at M y (r ∷ K))
    fast_step y v P r K at up now prefix either =
        elim (cases_Bool (g.by r y)) [
          | inl acts ↦ s.keeps y v P r K at acts up now prefix either
          | inr other ↦ subst (λ (z : LogState). IsPrefix P (keys_of z.log)) (sym (s.records.stays y r K at other)) prefix
        ]

    fast_stays : (y v : ℕ) (P : List Key) (K L : List R) → At J L → At L K → inc_of g y K ≡ inc_of g y L → IsUpIn M y v K → IsUpIn M y v L
        → IsPrefix P (keys_at M y K) → Comparable P (lead_of g v L)
        → IsPrefix P (keys_at M y L)
    fast_stays y v P K [] at here same up now prefix either = subst (λ (x : List R). IsPrefix P (keys_at M y x)) here prefix
    fast_stays y v P K (r ∷ L) at (inl here) same up now prefix either = subst (λ (x : List R). IsPrefix P (keys_at M y x)) here prefix
    fast_stays y v P K (r ∷ L) at (inr older) same up now prefix either =
        let there = up_before J s.records y K L r at older same up.up now.up in
        let before = same_before J s.records y K L r older same in
        let first = (monotone J s.records y K L (at_tail J r L at) older before up.up there).last in
        let second = (grew_step J s.records y r L at there now.up).last in
        let at_first = up.last in
        let at_last = now.last in
        let between : IsUpIn M y v L = record { up = there; last = omega (arith, first, second, at_first, at_last) } in
        let earlier = fast_stays y v P K L (at_tail J r L at) older before up between prefix (earlier_lead J s.records v P r L at either) in
        fast_step y v P r L at between now earlier either

    pub run_laws_of : RunLaws M J
    run_laws_of = record {
      laws = s.laws;
      inc_grows = λ x K L at there. inc_grows x K L there;
      start_stays = λ v S K L at there e. start_stays v S K L there e;
      monotone = monotone J s.records;
      lead_grows = lead_grows J s.records;
      starts = starts J s.records;
      lead_is = lead_is J s.records;
      fast_stays = fast_stays;
    }
