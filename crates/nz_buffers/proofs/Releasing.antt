-- The due entries come first.
use Rattle.std.proofs.Common.{◌≡◌, ℕ, true, false, List, [], ◌∷◌, ◌++◌, refl, sym, ap, ◌∙◌, inl, inr, arith}
use Rattle.std.proofs.lemmas.Bool.{cases_Bool, or_left, or_right}
use Rattle.std.specs.List.{take_while}
use Rattle.std.proofs.lemmas.Bool.Decides.{nat_tests}
use Rattle.std.proofs.lemmas.List.Sums.{take_while-cons}
use Rattle.nz_base.specs.declared.key.Key.{Key}
use Rattle.nz_base.specs.declared.key.Entry.{Entry}
use Rattle.nz_base.specs.Key.{key_below, key_eq}
use Rattle.nz_base.specs.Log.{keys_of, has_key, AreRising}
use Rattle.nz_base.proofs.Names.{key_eq_self}
use Rattle.nz_buffers.specs.Buffers.{is_due, released, held_back}

-- a key above one that is not due is not due
pub later_not_due : (clock : ℕ) (e f : Entry) → is_due clock e ≡ false → key_below e.key f.key ≡ true → is_due clock f ≡ false
later_not_due clock e f h above = grind (arith, nat_tests)

pub none_due : (clock : ℕ) (e : Entry) (es : List Entry) → is_due clock e ≡ false → ((x : Key) → has_key (keys_of es) x ≡ true → key_below e.key x ≡ true)
    → (released es clock ≡ []) × (held_back es clock ≡ es)
none_due clock e [] h above = (refl, refl)
none_due clock e (f ∷ fs) h above =
    let later = later_not_due clock e f h (above f.key (or_left (key_eq f.key f.key) (has_key (keys_of fs) f.key) (key_eq_self f.key))) in
    let rest = none_due clock e fs h (λ x there. above x (or_right (key_eq x f.key) (has_key (keys_of fs) x) there)) in
    (rw later rest.0, rw later (ap (λ (xs : List Entry). f ∷ xs) rest.1))

pub in_turn : (es : List Entry) (clock : ℕ) → AreRising (keys_of es) → take_while (is_due clock) es ≡ released es clock
in_turn [] clock r = refl
in_turn (e ∷ es) clock r =
    take_while-cons (is_due clock) e es ∙ elim (cases_Bool (is_due clock e)) [
      | inl due ↦ rw due (ap (λ (xs : List Entry). e ∷ xs) (in_turn es clock r.1))
      | inr not_due ↦ rw not_due (sym (none_due clock e es not_due r.0).0)
    ]

-- The entries that are released come first, and those that are held back follow.
pub left : (es : List Entry) (clock : ℕ) → AreRising (keys_of es) → es ≡ released es clock ++ held_back es clock
left [] clock r = refl
left (e ∷ es) clock r =
    elim (cases_Bool (is_due clock e)) [
      | inl due ↦ rw due (ap (λ (xs : List Entry). e ∷ xs) (left es clock r.1))
      | inr not_due ↦
          let none = none_due clock e es not_due r.0 in
          rw (not_due, none.0, none.1) refl
    ]
