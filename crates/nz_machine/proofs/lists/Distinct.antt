-- Lists of what was collected, each item with the number of its sender, in which no sender is there twice.
use Rattle.std.proofs.Common.{◌≡◌, ℕ, Bool, true, false, cond, ◌||◌, not, eqb, List, [], ◌∷◌, ◌++◌, map, refl, sym, ap, subst, ◌∙◌, inl, inr}
use Rattle.std.proofs.lemmas.Bool.{cases_Bool, or_cases, or_left, or_right}
use Rattle.std.specs.List.{filter, list_any}
use Rattle.nz_base.proofs.Booleans.{true_and_false}
use Rattle.nz_math.specs.Count.{is_in, AreDistinct}
use Rattle.nz_math.proofs.Counting.{distinct-append}
use Rattle.nz_merge.specs.Sender.{has_sender, HaveOwnSenders}
use Rattle.nz_merge.specs.declared.report.Report.{Report}
use Rattle.nz_machine.specs.declared.data.CollectedReport.{CollectedReport}

-- The test by an equation and the test of membership are the same.
pub any_in : (xs : List ℕ) (y : ℕ) → list_any (λ t. eqb t y) xs ≡ is_in xs y
any_in [] y = refl
any_in (x ∷ xs) y = ap (λ b. eqb x y || b) (any_in xs y)

module _ {X : Type 0} (key : X → ℕ) where
  cond_in : (x : X) (rest : List X) (y : ℕ) (b : Bool) → is_in (map key (cond b (x ∷ rest) rest)) y ≡ true → (eqb (key x) y || is_in (map key rest) y) ≡ true
  cond_in x rest y true h = h
  cond_in x rest y false h = or_right (eqb (key x) y) (is_in (map key rest) y) h

  in_filter : (p : X → Bool) (xs : List X) (y : ℕ) → is_in (map key (filter p xs)) y ≡ true → is_in (map key xs) y ≡ true
  in_filter p [] y h = h
  in_filter p (x ∷ xs) y h = elim (or_cases (eqb (key x) y) (is_in (map key (filter p xs)) y) (cond_in x (filter p xs) y (p x) h)) [
    | inl a ↦ or_left (eqb (key x) y) (is_in (map key xs) y) a
    | inr b ↦ or_right (eqb (key x) y) (is_in (map key xs) y) (in_filter p xs y b)
  ]

  not_in_filter : (p : X → Bool) (xs : List X) (y : ℕ) → is_in (map key xs) y ≡ false → is_in (map key (filter p xs)) y ≡ false
  not_in_filter p xs y out = elim (cases_Bool (is_in (map key (filter p xs)) y)) [
    | inl among ↦ true_and_false (is_in (map key xs) y) (in_filter p xs y among) out
    | inr none ↦ none
  ]

  distinct_cond : (x : X) (rest : List X) (b : Bool) → is_in (map key rest) (key x) ≡ false → AreDistinct (map key rest)
      → AreDistinct (map key (cond b (x ∷ rest) rest))
  distinct_cond x rest true out d = (out, d)
  distinct_cond x rest false out d = d

  pub distinct_filter : (p : X → Bool) (xs : List X) → AreDistinct (map key xs) → AreDistinct (map key (filter p xs))
  distinct_filter p [] d = d
  distinct_filter p (x ∷ xs) d = distinct_cond x (filter p xs) (p x) (not_in_filter p xs (key x) d.0) (distinct_filter p xs d.1)

  gone_cond : (x : X) (rest : List X) (y : ℕ) (b : Bool) → eqb (key x) y ≡ b → is_in (map key rest) y ≡ false
      → is_in (map key (cond (not b) (x ∷ rest) rest)) y ≡ false
  gone_cond x rest y true e out = out
  gone_cond x rest y false e out = ap (λ b. b || is_in (map key rest) y) e ∙ out

  -- what is filtered out is not in the rest
  pub gone : (xs : List X) (y : ℕ) → is_in (map key (filter (λ t. not (eqb (key t) y)) xs)) y ≡ false
  gone [] y = refl
  gone (x ∷ xs) y = gone_cond x (filter (λ t. not (eqb (key t) y)) xs) y (eqb (key x) y) refl (gone xs y)

  map_more : (xs : List X) (x : X) → map key (xs ++ x ∷ []) ≡ map key xs ++ key x ∷ []
  map_more [] x = refl
  map_more (z ∷ xs) x = ap (λ ys. key z ∷ ys) (map_more xs x)

  pub distinct_add : (xs : List X) (x : X) → AreDistinct (map key xs) → is_in (map key xs) (key x) ≡ false → AreDistinct (map key (xs ++ x ∷ []))
  distinct_add xs x d out = subst AreDistinct (sym (map_more xs x)) (distinct-append (map key xs) (key x) d out)

  -- one more, in place of an earlier one of its sender
  pub distinct_replace : (xs : List X) (x : X) → AreDistinct (map key xs) → AreDistinct (map key (filter (λ t. not (eqb (key t) (key x))) xs ++ x ∷ []))
  distinct_replace xs x d =
      distinct_add (filter (λ t. not (eqb (key t) (key x))) xs) x (distinct_filter (λ t. not (eqb (key t) (key x))) xs d) (gone xs (key x))

-- ---- reports

abbrev pub sender_of : CollectedReport → ℕ
sender_of r = r.report.sender

abbrev pub reports_in : List CollectedReport → List Report
reports_in rs = map (λ r. r.report) rs

pub has_sender_in : (rs : List CollectedReport) (y : ℕ) → has_sender (reports_in rs) y ≡ is_in (map sender_of rs) y
has_sender_in [] y = refl
has_sender_in (r ∷ rs) y = ap (λ b. eqb r.report.sender y || b) (has_sender_in rs y)

-- the reports' senders differ, said in two ways
pub distinct_senders : (rs : List CollectedReport) → HaveOwnSenders (reports_in rs) → AreDistinct (map sender_of rs)
distinct_senders [] own = tt
distinct_senders (r ∷ rs) own = (sym (has_sender_in rs r.report.sender) ∙ own.0, distinct_senders rs own.1)

pub own_senders : (rs : List CollectedReport) → AreDistinct (map sender_of rs) → HaveOwnSenders (reports_in rs)
own_senders [] own = tt
own_senders (r ∷ rs) own = (has_sender_in rs r.report.sender ∙ own.0, own_senders rs own.1)
