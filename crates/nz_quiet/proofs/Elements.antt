-- The elements of lists.
use Rattle.std.proofs.Common.{◌≡◌, ℕ, zero, suc, ◌<◌, Bool, true, cond, eqb, List, [], ◌∷◌, map, refl, sym, ap, subst, ◌∙◌, inl, inr, arith}
use Rattle.std.specs.List.{AllByRecursion, filter}
use Rattle.std.proofs.lemmas.Bool.{cases_Bool, eqb-true}
use Rattle.std.proofs.lemmas.Bool.Decides.{nat_tests}
use Rattle.nz_machine.specs.rules.Replicas.{numbers_below}
use Rattle.nz_machine.specs.runs.World.{Has}
use Rattle.nz_machine.proofs.runs.Runs.{has_left, has_right}

pub all_of_each : {X : Type 0} (P : X → Type 0) (xs : List X) → ((x : X) → Has xs x → P x) → AllByRecursion P xs
all_of_each P [] each = tt
all_of_each P (x ∷ xs) each = (each x (inl refl), all_of_each P xs (λ y h. each y (inr h)))

pub has_mapped : {X Y : Type 0} (f : X → Y) (xs : List X) (x : X) → Has xs x → Has (map f xs) (f x)
has_mapped f [] x h = absurd h
has_mapped f (z ∷ xs) x (inl e) = inl (ap f e)
has_mapped f (z ∷ xs) x (inr h) = inr (has_mapped f xs x h)

-- it is made of one of the list
pub record IsMapped {X Y : Type 0} (f : X → Y) (xs : List X) (y : Y) : Type 0 where
  pub one : X
  pub among : Has xs one
  pub is : y ≡ f one

pub is_mapped : {X Y : Type 0} (f : X → Y) (xs : List X) (y : Y) → Has (map f xs) y → IsMapped f xs y
is_mapped f [] y h = absurd h
is_mapped f (z ∷ xs) y (inl e) = record { one = z; among = inl refl; is = sym e }
is_mapped f (z ∷ xs) y (inr h) = let t = is_mapped f xs y h in record { one = t.one; among = inr t.among; is = t.is }

pub has_filtered : {X : Type 0} (p : X → Bool) (xs : List X) (x : X) → Has xs x → p x ≡ true → Has (filter p xs) x
has_filtered p [] x h t = absurd h
has_filtered p (z ∷ xs) x (inl same) t = let here : p z ≡ true = ap p same ∙ t in rw here (inl same)
has_filtered p (z ∷ xs) x (inr h) t = elim (cases_Bool (p z)) [
  | inl here ↦ rw here (inr (has_filtered p xs x h t))
  | inr away ↦ rw away (has_filtered p xs x h t)
]

pub of_filter : {X : Type 0} (p : X → Bool) (xs : List X) (x : X) → Has (filter p xs) x → Has xs x × (p x ≡ true)
of_filter p [] x h = absurd h
of_filter {X} p (z ∷ xs) x h = elim (cases_Bool (p z)) [
  | inl here ↦
      elim (subst (λ (b : Bool). Has (cond b (z ∷ filter p xs) (filter p xs)) x) here h) [
        | inl same ↦ (inl same, sym (ap p same) ∙ here)
        | inr later ↦ let t = of_filter p xs x later in (inr t.0, t.1)
      ]
  | inr away ↦ let t = of_filter p xs x (subst (λ (b : Bool). Has (cond b (z ∷ filter p xs) (filter p xs)) x) away h) in (inr t.0, t.1)
]

pub has_number : (n k : ℕ) → k < n → Has (numbers_below n) k
has_number zero k lt = absurd (omega (arith, lt))
has_number (suc n) k lt = elim (cases_Bool (eqb n k)) [
  | inl here ↦ has_right (numbers_below n) (n ∷ []) k (inl (eqb-true n k here))
  | inr away ↦ has_left (numbers_below n) (n ∷ []) k (has_number n k (grind (arith, nat_tests, lt, away)))
]
