-- A script that is read request by request.
use Rattle.std.proofs.Common.{◌≡◌, ◌≤◌, ℕ, zero, suc, Bool, true, false, List, [], ◌∷◌, length, take, Some, refl, sym, ap, ◌∙◌, arith}
use Rattle.std.specs.Prelude.{◌||◌, slice_get, slice_index_or}
use Rattle.std.specs.List.{list_any}
use Rattle.std.proofs.lemmas.Bool.{or_left, or_right}
use Rattle.std.proofs.lemmas.Option.{none-some, same_Some}
use Rattle.nz_base.specs.declared.key.Id.{Id}
use Rattle.nz_base.specs.declared.scenario.Scenario.{Scenario}
use Rattle.nz_locks.specs.Clean.{is_foul_request, script_in, IsCleanScenario, IsFirstFoul}

neither : (a b c : Bool) → (a || b) ≡ false → (b ≡ false → c ≡ false) → (a || c) ≡ false
neither true b c e f = absurd cc
neither false b c e f = f e

pub any_next : {X : Type 0} (p : X → Bool) (xs : List X) (i : ℕ) (x : X) → slice_get xs i ≡ Some x → list_any p (take i xs) ≡ false
    → p x ≡ false → list_any p (take (suc i) xs) ≡ false
any_next p [] i x is before h = absurd (none-some x is)
any_next p (y ∷ ys) zero x is before h = rw (ap p (same_Some y x is) ∙ h) refl
any_next p (y ∷ ys) (suc i) x is before h =
    neither (p y) (list_any p (take i ys)) (list_any p (take (suc i) ys)) before (λ e. any_next p ys i x is e h)

-- no list is beyond the last
pub beyond : {X : Type 0} (xs : List (List X)) (i : ℕ) → length xs ≤ i → slice_index_or xs i [] ≡ []
beyond [] i past = refl
beyond (x ∷ xs) zero past = absurd (omega (arith, past))
beyond (x ∷ xs) (suc i) past = beyond xs i (omega (arith, past))

any_at : {X : Type 0} (p : X → Bool) (xs : List X) (i : ℕ) (x : X) → slice_get xs i ≡ Some x → p x ≡ true → list_any p xs ≡ true
any_at p [] i x is h = absurd (none-some x is)
any_at p (y ∷ ys) zero x is h = or_left (p y) (list_any p ys) (ap p (same_Some y x is) ∙ h)
any_at p (y ∷ ys) (suc i) x is h = or_right (p y) (list_any p ys) (any_at p ys i x is h)

-- a scenario with a foul command is not clean
pub not_clean : (s : Scenario) (id : Id) → IsFirstFoul s id → IsCleanScenario s → ⊥
not_clean s id foul clean =
    let script = script_in s.scripts id.client in
    let f : true ≡ false = sym (any_at (is_foul_request id.client) script foul.place foul.first.request foul.first.there foul.first.foul) ∙ clean.each id.client in
    absurd cc
