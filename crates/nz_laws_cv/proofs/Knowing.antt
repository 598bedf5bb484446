-- Own counters rise with a replica's completed rejoins, and whoever answered one knows its counter ever after. Both by
-- induction on how many records two moments have together: first knowledge from smaller numbers, then the rise from it.
use Rattle.std.proofs.Common.{◌≡◌, ℕ, ◌+◌, ◌<◌, ◌≤◌, List, length, sym, ap, subst, inl, inr, ◌⊎◌, arith}
use Rattle.std.proofs.lemmas.Bool.{cases_lt, cases_eq}
use Rattle.nz_base.specs.Moments.{At}
use Rattle.nz_base.proofs.Moments.{at_then, at_shorter}
use Rattle.nz_math.proofs.Upto.{upto}
use Rattle.nz_laws_cv.specs.Notions.{Notions}
use Rattle.nz_laws_cv.specs.Ground.{TellsVector, Ground}
use Rattle.nz_laws_cv.proofs.Meeting.{meet}
use Rattle.nz_laws_cv.proofs.Completing.{restart_between, no_higher, later, own_positive, comes_from}

-- in one incarnation, or in a later one
pub cases_same : (a b : ℕ) → a ≤ b → (a ≡ b) ⊎ (a < b)
cases_same a b le = elim (cases_lt a b) [ inl lt ↦ inr lt | inr ge ↦ inl (omega arith) ]

module _ {R : Type 0} (N : Notions R) (J : List R) where
  -- own counters rise, and of an answer of this replica to that, for moments of at most n records together
  abbrev pub RisesTo : ℕ → Type 0
  RisesTo n = (x : ℕ) (S K : List R) → At J S → At J K → N.IsUp x S → N.IsUp x K → N.inc x S < N.inc x K
      → length S + length K ≤ n → N.place x S x < N.place x K x

  abbrev pub Knows : ℕ → ℕ → ℕ → Type 0
  Knows n m x = (C T K : List R) → N.Completes m C → N.Uses m C x T → At J K → N.IsUp x K → N.inc x T < N.inc x K
      → length C + length K ≤ n → N.place m C m ≤ N.place x K m

  pub record KnowsTo (n : ℕ) : Type 0 where
    pub know : (m x : ℕ) → Knows n m x
    pub rise : RisesTo n

  abbrev pub KnowsOthers : ℕ → Type 0
  KnowsOthers n = (m x : ℕ) → ¬ (m ≡ x) → Knows n m x

  -- what y answered to a completion, it has at any later moment at which it is up
  pub has_counter : Ground N J → (m y : ℕ) (C T L : List R) → N.Completes m C → N.Uses m C y T → At J L → N.IsUp y L → length T ≤ length L
      → (N.inc y T < N.inc y L → N.place m C m ≤ N.place y L m) → N.place m C m ≤ N.place y L m
  has_counter h m y C T L c u at up le known =
      let used = (h.completion m C c).answer y T u in
      elim (cases_same (N.inc y T) (N.inc y L) (no_higher N J h.modes y T L used.at at le)) [
        | inl same ↦
            let grew = (later N J h.modes y T L used.at at le same used.up up).places m in
            let counter = used.counter in
            omega (arith, grew, counter)
        | inr more ↦ known more
      ]

  know_step : Ground N J → (n : ℕ) → ((k : ℕ) → k < n → KnowsTo k) → KnowsOthers n
  know_step h n ih m x apart C T K c u at up more small =
      let from = comes_from N J h x K at up (omega (arith, more)) in
      let C' = from.0 in
      let came = from.1 in
      let first = h.completion m C c in
      let second = h.completion x C' came.completes in
      let used_x = first.answer x T u in
      let shared = meet N.f (N.Uses m C) (N.Uses x C') first.answers second.answers in
      let y = shared.who in
      let s = shared.early in
      let s' = shared.late in
      let to_m = first.answer y s shared.one in
      let to_x = second.answer y s' shared.other in
      let short = at_shorter K C' came.at in
      let s_first = to_m.before in
      let s'_first = to_x.before in
      let t_first = used_x.before in
      elim (cases_lt (length s') (length s)) [
        | inr le ↦
            let less : length C + length s' < n = omega (arith, short, s'_first, small) in
            let has = has_counter h m y C s s' c shared.one to_x.at to_x.up le
            (λ higher. (ih (length C + length s') less).know m y C s s' c shared.one to_x.at to_x.up higher (omega arith)) in
            let taken = to_x.merged m (λ e. apart (sym e)) in
            let grew = came.places m in
            omega (arith, has, taken, grew)
        | inl lt ↦ absurd (
            let less : length C' + length s < n = omega (arith, short, s_first, small) in
            let has = has_counter h x y C' s' s came.completes shared.other to_m.at to_m.up (omega arith)
            (λ higher. (ih (length C' + length s) less).know x y C' s' s came.completes shared.other to_m.at to_m.up higher (omega arith)) in
            let agree = first.consistent y x s T shared.one u in
            let fewer : length T + length C' < n = omega (arith, short, t_first, small) in
            let same = came.inc in
            let up_c = h.modes.normal_up x C' second.normal in
            let rises = (ih (length T + length C') fewer).rise x T C' used_x.at second.at used_x.up up_c (omega (arith, same, more)) (omega arith) in
            omega (arith, has, agree, rises))
      ]

  -- no replica told itself: its own counter stays while it is up
  not_told : Ground N J → (x y : ℕ) (K T : List R) → At J K → N.IsUp x K → TellsVector N x K y T → ¬ (x ≡ y)
  not_told h x y K T at up told e =
      let own = subst (λ (z : ℕ). TellsVector N x K z T) (sym e) told in
      let stays = (h.modes.later x T K at own.at own.inside own.up up).own in
      let below = own.below in
      omega (arith, stays, below)

  rise_step : Ground N J → (n : ℕ) → KnowsOthers n → RisesTo n
  rise_step h n known x S K s k up_s up_k more small =
      let claim = h.claimed x K k up_k (omega (arith, more)) in
      elim (cases_lt 0 (N.inc x S)) [
        | inr none ↦
            let zero = h.own_zero x S s up_s (omega (arith, none)) in
            let one = own_positive N J h x K k up_k (omega (arith, more)) in
            omega (arith, zero, one)
        | inl some ↦
            let from = comes_from N J h x S s up_s some in
            let C = from.0 in
            let came = from.1 in
            let done = h.completion x C came.completes in
            let shared = meet N.f (N.Uses x C) (TellsVector N x K) done.answers claim in
            let y = shared.who in
            let a = shared.early in
            let b = shared.late in
            let answered = done.answer y a shared.one in
            let told = shared.other in
            let at_b = at_then J K b k told.at in
            let up_b = told.up in
            let inside = told.inside in
            let restart = restart_between N J h.modes x S b s at_b (omega (arith, inside, more)) in
            let a_first = answered.before in
            let short_c = at_shorter S C came.at in
            let short_b = at_shorter K b told.at in
            let has = has_counter h x y C a b came.completes shared.one at_b up_b (omega (arith, restart, a_first, short_c))
            (λ higher. known x y (not_told h x y K b k up_k told) C a b came.completes shared.one at_b up_b higher (omega (arith, short_c, short_b, small))) in
            let own = came.own in
            let below = told.below in
            omega (arith, own, below, has)
      ]

  know_all : Ground N J → (n : ℕ) → ((k : ℕ) → k < n → KnowsTo k) → KnowsTo n
  know_all h n ih =
      let others = know_step h n ih in
      let rises = rise_step h n others in
      record {
        know = λ m x C T K c u at up more small. elim (cases_eq m x) [
          | inr apart ↦ others m x apart C T K c u at up more small
          | inl e ↦
              let done = h.completion m C c in
              let inside = (done.answer x T u).inside in
              let at_t = ap (λ (z : ℕ). N.inc z T) e in
              let at_k = ap (λ (z : ℕ). N.inc z K) e in
              let own = ap (λ (z : ℕ). N.place z K m) e in
              let up_c = h.modes.normal_up m C done.normal in
              let up_k = subst (λ (z : ℕ). N.IsUp z K) (sym e) up in
              let rise = rises m C K done.at at up_c up_k (omega (arith, inside, at_t, at_k, more)) small in
              omega (arith, rise, own)
        ];
        rise = rises;
      }

  pub knows_to : Ground N J → (n : ℕ) → KnowsTo n
  knows_to h n = upto KnowsTo (know_all h) n
