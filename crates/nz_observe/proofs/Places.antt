-- The items of a list, by their places.
use Rattle.std.proofs.Common.{◌≡◌, ℕ, ◌<◌, List, length, Some, arith, inl, inr}
use Rattle.std.specs.Prelude.{slice_get}
use Rattle.std.proofs.lemmas.Option.{slice_get_cases}

-- there is one at each place within the list
pub item_at : {X : Type 0} (xs : List X) (i : ℕ) → i < length xs → (x : X) × (slice_get xs i ≡ Some x)
item_at xs i lt = elim (slice_get_cases xs i).1 [
  | inl h ↦ (h.0, h.2)
  | inr past ↦ absurd (let most = past.0 in omega (arith, lt, most))
]
