-- Lists of what was collected, each item with the number of its sender.
use Rattle.std.proofs.Common.{◌≡◌, ℕ, ◌≤◌, Bool, true, false, cond, eqb, List, [], ◌∷◌, map, refl, sym, ap, ◌∙◌, inl, inr, ◌⊎◌, arith, eqb-true}
use Rattle.std.proofs.lemmas.Bool.{or_cases}
use Rattle.std.specs.List.{filter}
use Rattle.nz_merge.specs.Merged.{greatest}
use Rattle.nz_machine.specs.runs.World.{Has}
use Rattle.nz_math.specs.Count.{is_in}

pub record Passes {X : Type 0} (p : X → Bool) (xs : List X) (x : X) : Type 0 where
  pub among : Has xs x
  pub passes : p x ≡ true

kept_by : {X : Type 0} (p : X → Bool) (y : X) (rest : List X) (x : X) (b : Bool) → p y ≡ b → Has (cond b (y ∷ rest) rest) x
    → ((y ≡ x) × (b ≡ true)) ⊎ Has rest x
kept_by p y rest x true e (inl h) = inl (h, refl)
kept_by p y rest x true e (inr h) = inr h
kept_by p y rest x false e h = inr h

pub filter_has : {X : Type 0} (p : X → Bool) (xs : List X) (x : X) → Has (filter p xs) x → Passes p xs x
filter_has p [] x h = absurd h
filter_has p (y ∷ xs) x h = elim (kept_by p y (filter p xs) x (p y) refl h) [
  | inl a ↦ record { among = inl a.0; passes = ap p (sym a.0) ∙ a.1 }
  | inr b ↦ let t = filter_has p xs x b in record { among = inr t.among; passes = t.passes }
]

module _ {X : Type 0} (key : X → ℕ) where
  pub record IsFound (xs : List X) (y : ℕ) : Type 0 where
    pub item : X
    pub has : Has xs item
    pub is : key item ≡ y

  pub in_map : (xs : List X) (y : ℕ) → is_in (map key xs) y ≡ true → IsFound xs y
  in_map [] y h = absurd cc
  in_map (x ∷ xs) y h = elim (or_cases (eqb (key x) y) (is_in (map key xs) y) h) [
    | inl a ↦ record { item = x; has = inl refl; is = eqb-true (key x) y a }
    | inr b ↦ let t = in_map xs y b in record { item = t.item; has = inr t.has; is = t.is }
  ]

  pub above_each : (xs : List X) (x : X) → Has xs x → key x ≤ greatest (map key xs)
  above_each [] x h = absurd h
  above_each (y ∷ xs) x (inl e) = let same = ap key e in omega (arith, same)
  above_each (y ∷ xs) x (inr h) = let rest = above_each xs x h in omega (arith, rest)
