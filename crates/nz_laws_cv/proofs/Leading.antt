-- A view is led in one incarnation, and begins once.
use Rattle.std.proofs.Common.{◌≡◌, ℕ, ◌<◌, List, [], ◌∷◌, length, ap, subst, inl, inr, ◌⊎◌, arith}
use Rattle.std.proofs.lemmas.Bool.{cases_lt}
use Rattle.nz_base.specs.Moments.{At}
use Rattle.nz_base.proofs.Moments.{at_self, at_then, at_order, at_same, at_tail}
use Rattle.nz_laws_cv.specs.Notions.{Notions, IsIn}
use Rattle.nz_laws_cv.specs.Ground.{StaysUp, HasModes, Ground}
use Rattle.nz_laws_cv.specs.Views.{HasViews}
use Rattle.nz_laws_cv.proofs.Completing.{comes_from}
use Rattle.nz_laws_cv.proofs.Members.{was_normal}

module _ {R : Type 0} (N : Notions R) (J : List R) where
  -- a replica that completed leads no view in which it was Normal before
  outranked : Ground N J → (v : ℕ) (S K : List R) → At J S → At J K → IsIn N (N.leader v) v S → IsIn N (N.leader v) v K
      → N.inc (N.leader v) S < N.inc (N.leader v) K → ⊥
  outranked h v S K s k was is lower =
      let l = N.leader v in
      let from = comes_from N J h l K k (h.modes.normal_up l K is.normal) (omega (arith, lower)) in
      let C = from.0 in
      let came = from.1 in
      let same = came.inc in
      let reached = was_normal N J h l v S C s was came.completes (omega (arith, same, lower)) in
      let grew = came.view in
      let now = is.view in
      let is_v : N.view l C ≡ v = omega (arith, reached, grew, now) in
      (h.completion l C came.completes).follows (ap N.leader is_v)

  -- the leader of a view is Normal in it in one incarnation alone
  pub one_leader : Ground N J → (v : ℕ) (S K : List R) → At J S → At J K → IsIn N (N.leader v) v S → IsIn N (N.leader v) v K
      → N.inc (N.leader v) S ≡ N.inc (N.leader v) K
  one_leader h v S K s k was is = elim (cases_lt (N.inc (N.leader v) S) (N.inc (N.leader v) K)) [
    | inl lower ↦ absurd (outranked h v S K s k was is lower)
    | inr le ↦ elim (cases_lt (N.inc (N.leader v) K) (N.inc (N.leader v) S)) [
      | inl lower ↦ absurd (outranked h v K S k s is was lower)
      | inr ge ↦ omega (arith, le, ge)
    ]
  ]

  pub leader_of_zero : Ground N J → (K : List R) → At J K → IsIn N (N.leader 0) 0 K → N.inc (N.leader 0) K ≡ 0
  leader_of_zero h K at is = elim (cases_lt 0 (N.inc (N.leader 0) K)) [
    | inr none ↦ omega (arith, none)
    | inl more ↦ absurd (
        let l = N.leader 0 in
        let from = comes_from N J h l K at (h.modes.normal_up l K is.normal) more in
        let came = from.1 in
        let grew = came.view in
        let now = is.view in
        let is_zero : N.view l from.0 ≡ 0 = omega (arith, grew, now) in
        (h.completion l from.0 came.completes).follows (ap N.leader is_zero))
  ]

  -- what is needed for one begin: no replica completes in a view that it leads, and a view is led from its begins on,
  -- in their incarnation
  pub record LeadsOnce : Type 0 where
    pub follows : (x : ℕ) (C : List R) → N.Completes x C → ¬ (N.leader (N.view x C) ≡ x)
    pub at : (v : ℕ) (B : List R) → N.Begins v B → At J B
    pub leads : (v : ℕ) (B : List R) → N.Begins v B → IsIn N (N.leader v) v B
    pub turns : (v : ℕ) (r : R) (K : List R) → N.Begins v (r ∷ K) → ¬ IsIn N (N.leader v) v K
    pub one : (v : ℕ) (B K : List R) → N.Begins v B → At J K → IsIn N (N.leader v) v K → N.inc (N.leader v) K ≡ N.inc (N.leader v) B

  -- at a record at which the leader of v is Normal in v, it was so before, or was up with a lower last view
  pub record TurnsTo (v : ℕ) (r : R) (K : List R) : Type 0 where
    pub stays : StaysUp N (N.leader v) K (r ∷ K)
    pub lower : N.last (N.leader v) K < v

  turns_or_stays : HasModes N J → LeadsOnce → (v : ℕ) (r : R) (K : List R) → At J (r ∷ K) → IsIn N (N.leader v) v (r ∷ K)
      → TurnsTo v r K ⊎ (IsIn N (N.leader v) v K × (N.inc (N.leader v) K ≡ N.inc (N.leader v) (r ∷ K)))
  turns_or_stays m o v r K at is =
      let l = N.leader v in
      let up = m.normal_up l (r ∷ K) is.normal in
      let now = is.view in
      elim (m.stays l r K at up) [
        | inr c ↦ absurd (o.follows l (r ∷ K) c (ap N.leader now))
        | inl s ↦
            let at_k = at_tail J r K at in
            let grew = (m.later l K (r ∷ K) at (inr (at_self K)) s.same s.up up).view in
            elim (m.changing l K at_k s.up) [
              | inr lower ↦ inl (record { stays = s; lower = omega (arith, lower, grew, now) })
              | inl normal ↦
                  let mode = m.mode l K at_k normal in
                  elim (cases_lt (N.view l K) v) [
                    | inl lower ↦ inl (record { stays = s; lower = omega (arith, mode, lower) })
                    | inr ge ↦ inr (record { normal = normal; view = omega (arith, ge, grew, now) }, s.same)
                  ]
            ]
      ]

  -- after a begin of v its leader does not turn to v again
  turns_once : HasModes N J → LeadsOnce → (v : ℕ) (B : List R) (r : R) (K : List R) → N.Begins v B → At J (r ∷ K) → At K B → IsIn N (N.leader v) v (r ∷ K)
      → TurnsTo v r K → ⊥
  turns_once m o v B r K b at older is t =
      let l = N.leader v in
      let at_k = at_tail J r K at in
      let at_b = at_then J K B at_k older in
      let leads = o.leads v B b in
      let one = o.one v B (r ∷ K) b at is in
      let same = t.stays.same in
      let mode = m.mode l B at_b leads.normal in
      let view = leads.view in
      let lower = t.lower in
      let grew = (m.later l B K at_k older (omega (arith, one, same)) (m.normal_up l B leads.normal) t.stays.up).last in
      omega (arith, grew, mode, view, lower)

  begins : HasModes N J → LeadsOnce → (v : ℕ) (r : R) (K : List R) → At J (r ∷ K) → IsIn N (N.leader v) v (r ∷ K) → TurnsTo v r K → N.Begins v (r ∷ K)
  begins m o v r K at is t =
      let lower = t.lower in
      let found = m.begun (N.leader v) v (r ∷ K) at is (omega (arith, lower)) in
      elim (found.2) [
        | inl same ↦ subst (N.Begins v) same found.1
        | inr older ↦ absurd (turns_once m o v found.0 r K found.1 at older is t)
      ]

  pub begins_once : HasModes N J → LeadsOnce → (v : ℕ) (r : R) (K : List R) → At J (r ∷ K) → IsIn N (N.leader v) v (r ∷ K)
      → N.Begins v (r ∷ K) ⊎ (IsIn N (N.leader v) v K × (N.inc (N.leader v) K ≡ N.inc (N.leader v) (r ∷ K)))
  begins_once m o v r K at is = elim (turns_or_stays m o v r K at is) [ inl t ↦ inl (begins m o v r K at is t) | inr s ↦ inr s ]

  none_later : HasModes N J → LeadsOnce → (v : ℕ) (B C : List R) → N.Begins v B → N.Begins v C → length B < length C → ⊥
  none_later m o v B [] b c lt = absurd (omega (arith, lt))
  none_later m o v B (r ∷ K) b c lt =
      let at = o.at v (r ∷ K) c in
      let is = o.leads v (r ∷ K) c in
      let older = at_order J B K (o.at v B b) (at_tail J r K at) (omega (arith, lt)) in
      elim (turns_or_stays m o v r K at is) [
        | inl t ↦ turns_once m o v B r K b at older is t
        | inr s ↦ o.turns v r K c s.0
      ]

  -- each view begins once
  pub once : HasModes N J → LeadsOnce → (v : ℕ) (B C : List R) → N.Begins v B → N.Begins v C → B ≡ C
  once m o v B C b c = elim (cases_lt (length B) (length C)) [
    | inl lt ↦ absurd (none_later m o v B C b c lt)
    | inr le ↦ elim (cases_lt (length C) (length B)) [
      | inl lt ↦ absurd (none_later m o v C B c b lt)
      | inr ge ↦ at_same J B C (o.at v B b) (o.at v C c) (omega (arith, le, ge))
    ]
  ]

  -- before a record that finds the leader Normal in its view, the new leader's own report among them, it was up
  pub before_begin : HasModes N J → HasViews N J → (v : ℕ) (r : R) (K : List R) → At J (r ∷ K) → IsIn N (N.leader v) v (r ∷ K)
      → StaysUp N (N.leader v) K (r ∷ K)
  before_begin m h v r K at is = elim (m.stays (N.leader v) r K at (m.normal_up (N.leader v) (r ∷ K) is.normal)) [
    | inl s ↦ s
    | inr c ↦ absurd ((h.completion (N.leader v) (r ∷ K) c).follows (ap N.leader (is.view)))
  ]
