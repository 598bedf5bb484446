-- Two different numbers as a list.
use Rattle.std.proofs.Common.{◌≡◌, ℕ, ◌<◌, true, false, eqb, [], ◌∷◌, refl, ◌⊎◌, inl, inr, arith}
use Rattle.std.proofs.lemmas.Bool.{cases_eq, ne_eqb}
use Rattle.nz_math.specs.Count.{is_in, IsChoice}

pub of_two : (a b x : ℕ) → is_in (a ∷ b ∷ []) x ≡ true → (a ≡ x) ⊎ (b ≡ x)
of_two a b x h = elim (cases_eq a x) [
  | inl e ↦ inl e
  | inr other ↦ elim (cases_eq b x) [
    | inl e ↦ inr e
    | inr differs ↦ absurd (
        let one : eqb a x ≡ false = ne_eqb a x other in
        let two : eqb b x ≡ false = ne_eqb b x differs in
        let clash : false ≡ true = rw (one, two) at h in
        cc)
  ]
]

pub two_choice : (n a b : ℕ) → a < n → b < n → (b ≡ a → ⊥) → IsChoice n (a ∷ b ∷ [])
two_choice n a b low less apart = record {
  distinct = ((let p : eqb b a ≡ false = ne_eqb b a apart in rw p refl), (refl, tt));
  below = λ x h. elim (of_two a b x h) [ inl e ↦ omega (arith, e, low) | inr e ↦ omega (arith, e, less) ];
}
