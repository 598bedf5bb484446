-- Open requests, and what is left without one of them.
use Rattle.std.proofs.Common.{◌≡◌, ℕ, Bool, true, false, not, ◌||◌, eqb, List, [], ◌∷◌, ap, ◌∙◌, inl, inr, arith}
use Rattle.std.specs.List.{AllByRecursion}
use Rattle.std.proofs.lemmas.Bool.{cases_Bool, or_right}
use Rattle.std.proofs.lemmas.Bool.Decides.{nat_tests}
use Rattle.nz_machine.specs.declared.data.Attempt.{Attempt}
use Rattle.nz_machine.specs.rules.Clients.{is_open, without_attempt}
use Rattle.nz_machine.specs.runs.World.{Has}
use Rattle.nz_quiet.proofs.Elements.{has_filtered}

-- one of this number is open
pub open_has : (num : ℕ) (xs : List Attempt) (a : Attempt) → Has xs a → a.num ≡ num → is_open num xs ≡ true
open_has num [] a h is = absurd h
open_has num (x ∷ xs) a (inl same) is =
    let own : eqb num num ≡ true = grind (arith, nat_tests) in
    let here : eqb x.num num ≡ true = ap (λ (y : Attempt). eqb y.num num) same ∙ ap (λ (k : ℕ). eqb k num) is ∙ own in
    ap (λ (b : Bool). b || is_open num xs) here
open_has num (x ∷ xs) a (inr h) is = or_right (eqb x.num num) (is_open num xs) (open_has num xs a h is)

-- the others are left
pub others_left : (num : ℕ) (xs : List Attempt) (a : Attempt) → Has xs a → eqb a.num num ≡ false → Has (without_attempt num xs) a
others_left num xs a h other = has_filtered (λ (x : Attempt). not (eqb x.num num)) xs a h (ap not other)

-- what is left was there, and is another
pub left_others : (P Q : Attempt → Type 0) (num : ℕ) (xs : List Attempt) → AllByRecursion P xs → ((a : Attempt) → P a → eqb a.num num ≡ false → Q a)
    → AllByRecursion Q (without_attempt num xs)
left_others P Q num [] all each = tt
left_others P Q num (x ∷ xs) all each =
    let rest = left_others P Q num xs all.1 each in
    elim (cases_Bool (eqb x.num num)) [
      | inl own ↦ rw own rest
      | inr other ↦ rw other (each x all.0 other, rest)
    ]
