-- Moments are ordered by incarnations, and a replica's state grew from a completion.
use Rattle.std.proofs.Common.{◌≡◌, ℕ, ◌<◌, ◌≤◌, List, [], ◌∷◌, length, refl, ◌∙◌, inl, inr, arith}
use Rattle.std.proofs.lemmas.Bool.{cases_lt}
use Rattle.nz_base.specs.Moments.{At}
use Rattle.nz_base.proofs.Moments.{at_then, at_order, at_tail}
use Rattle.nz_laws_cv.specs.Notions.{Notions}
use Rattle.nz_laws_cv.specs.Ground.{IsLater, TellsVector, HasModes, Ground}
use Rattle.nz_laws_cv.specs.Views.{ComesFrom}
use Rattle.nz_laws_cv.proofs.Meeting.{meet}

module _ {R : Type 0} (N : Notions R) (J : List R) where
  -- of two moments the one in the lower incarnation is the older: a restart lies between
  pub restart_between : HasModes N J → (x : ℕ) (K L : List R) → At J K → At J L → N.inc x K < N.inc x L → length K < length L
  restart_between h x K L k l lower = elim (cases_lt (length K) (length L)) [
    | inl lt ↦ lt
    | inr le ↦ absurd (let falls = h.grows x L K k (at_order J L K l k le) in omega (arith, falls, lower))
  ]

  -- the older of two moments is in no higher incarnation
  pub no_higher : HasModes N J → (x : ℕ) (K L : List R) → At J K → At J L → length K ≤ length L → N.inc x K ≤ N.inc x L
  no_higher h x K L k l le = h.grows x K L l (at_order J K L k l le)

  -- within an incarnation nothing falls, by lengths of moments
  pub later : HasModes N J → (x : ℕ) (K L : List R) → At J K → At J L → length K ≤ length L → N.inc x K ≡ N.inc x L → N.IsUp x K → N.IsUp x L → IsLater N x K L
  later h x K L k l le same up_k up_l = h.later x K L l (at_order J K L k l le) same up_k up_l

  -- what is up in a later incarnation has completed in it
  pub record IsCompleted (x : ℕ) (K : List R) : Type 0 where
    pub moment : List R
    pub completes : N.Completes x moment
    pub at : At K moment
    pub inc : N.inc x moment ≡ N.inc x K

  pub completed_before : HasModes N J → (x : ℕ) (K : List R) → At J K → N.IsUp x K → 0 < N.inc x K → IsCompleted x K
  completed_before h x [] at up more = absurd (let none = h.first x in omega (arith, none))
  completed_before h x (r ∷ K) at up more = elim (h.stays x r K at up) [
    | inl s ↦
        let same = s.same in
        let c = completed_before h x K (at_tail J r K at) s.up (omega (arith, same)) in
        record { moment = c.moment; completes = c.completes; at = inr c.at; inc = c.inc ∙ same }
    | inr c ↦ record { moment = r ∷ K; completes = c; at = inl refl; inc = refl }
  ]

  pub own_positive : Ground N J → (x : ℕ) (K : List R) → At J K → N.IsUp x K → 0 < N.inc x K → 1 ≤ N.place x K x
  own_positive h x K at up more =
      let told = h.claimed x K at up more in
      let some = meet N.f (TellsVector N x K) (TellsVector N x K) told told in
      let above = some.one.below in
      omega (arith, above)

  pub comes_from : Ground N J → (x : ℕ) (K : List R) → At J K → N.IsUp x K → 0 < N.inc x K → (C : List R) × ComesFrom N J x K C
  comes_from h x K at up more =
      let m = h.modes in
      let c = completed_before m x K at up more in
      let C = c.moment in
      let before : At J C = at_then J K C at c.at in
      let normal = (h.completion x C c.completes).normal in
      let up_c = m.normal_up x C normal in
      let grew = m.later x C K at c.at c.inc up_c up in
      let same = c.inc in
      let last_c : N.last x C ≡ N.view x C = m.mode x C before normal in
      let grown = grew.last in (
        C,
        record {
          completes = c.completes;
          at = c.at;
          inc = same;
          counter = own_positive h x C before up_c (omega (arith, same, more));
          own = grew.own;
          places = grew.places;
          view = grew.view;
          last = omega (arith, grown, last_c);
        },
      )
