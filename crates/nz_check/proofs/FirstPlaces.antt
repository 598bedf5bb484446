-- First places, noted from the last entry on.
use Rattle.std.proofs.Common.{◌≡◌, ℕ, ◌+◌, ◌≤◌, cond, List, ◌∷◌, length, drop, get_or, drop-cons, Option, Some}
use Rattle.std.proofs.Common.{refl, sym, ap, ◌∙◌, arith, inl, inr, add-one}
use Rattle.std.proofs.lemmas.Bool.{cases_Bool}
use Rattle.nz_base.specs.Key.{id_eq}
use Rattle.nz_base.specs.declared.key.Id.{Id}
use Rattle.nz_base.proofs.Names.{id_turn, id_turn_away}
use Rattle.nz_machine.specs.declared.journal.Executed.{Executed}
use Rattle.nz_check.specs.Noting.{first_place}

turned : (id i : Id) (place : ℕ) (o : Option ℕ) → cond (id_eq id i) (Some place) o ≡ cond (id_eq i id) (Some place) o
turned id i place o = elim (cases_Bool (id_eq id i)) [
  | inl here ↦ rw (here, id_turn id i here) refl
  | inr away ↦ rw (away, id_turn_away id i away) refl
]

pub placed_before : (H : List Executed) (k n : ℕ) (i : Id) (x : Executed) (old : Option ℕ) → n ≡ k + 1 → n ≤ length H
    → old ≡ first_place n i (drop n H) → cond (id_eq (get_or H k x).id i) (Some k) old ≡ first_place k i (drop k H)
placed_before H k n i x old next most inv =
    let y = get_or H k x in
    let here : drop k H ≡ y ∷ drop n H =
    drop-cons H k x (omega (arith, next, most)) ∙ ap (λ (m : ℕ). y ∷ drop m H) (sym (add-one k) ∙ sym next) in
    turned y.id i k old
    ∙ ap (λ (o : Option ℕ). cond (id_eq i y.id) (Some k) o)
    (inv ∙ ap (λ (m : ℕ). first_place m i (drop n H)) (next ∙ add-one k))
    ∙ sym (ap (first_place k i) here)

pub placed_all : (H : List Executed) (n : ℕ) (i : Id) → n ≤ 0 → first_place n i (drop n H) ≡ first_place 0 i H
placed_all H n i done =
    let none : n ≡ 0 = omega (arith, done) in
    ap (λ (m : ℕ). first_place m i (drop m H)) none
