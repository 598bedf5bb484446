-- Lists that are cut at an element.
use Rattle.std.proofs.Common.{◌≡◌, Bool, true, false, List, [], ◌∷◌, ◌++◌, length, map, take, Some, refl, sym, ap, ◌∙◌, inl, inr, ◌⊎◌}
use Rattle.std.specs.Prelude.{slice_get}
use Rattle.std.specs.List.{list_any, list_all}
use Rattle.std.proofs.lemmas.Bool.{cases_Bool, false≢true, or_cases, or_left, or_right, and_parts}
use Rattle.nz_machine.specs.runs.World.{Has}
use Rattle.nz_machine.specs.runs.OneHistory.{Precedes}
use Rattle.nz_machine.proofs.runs.Runs.{has_right}

-- the list is cut at the element
pub record IsCut {X : Type 0} (xs : List X) (x : X) : Type 0 where
  pub before : List X
  pub after : List X
  pub whole : xs ≡ before ++ x ∷ after

pub has_cut : {X : Type 0} (a b : List X) (x : X) → Has (a ++ x ∷ b) x
has_cut a b x = has_right a (x ∷ b) x (inl refl)

pub cut_of_has : {X : Type 0} (xs : List X) (x : X) → Has xs x → IsCut xs x
cut_of_has {X = X} [] x h = absurd h
cut_of_has {X = X} (z ∷ xs) x (inl e) = record { before = []; after = xs; whole = ap (λ (z : X). z ∷ xs) e }
cut_of_has {X = X} (z ∷ xs) x (inr h) =
    let t = cut_of_has xs x h in record { before = z ∷ t.before; after = t.after; whole = ap (λ (l : List X). z ∷ l) t.whole }

-- ---- tests

-- an element that passes the test
pub record IsFound {X : Type 0} (p : X → Bool) (xs : List X) : Type 0 where
  pub item : X
  pub there : Has xs item
  pub passes : p item ≡ true

pub found_of_any : {X : Type 0} (p : X → Bool) (xs : List X) → list_any p xs ≡ true → IsFound p xs
found_of_any p [] h = absurd (false≢true h)
found_of_any p (x ∷ xs) h = elim (or_cases (p x) (list_any p xs) h) [
  | inl here ↦ record { item = x; there = inl refl; passes = here }
  | inr more ↦ let t = found_of_any p xs more in record { item = t.item; there = inr t.there; passes = t.passes }
]

pub any_of_has : {X : Type 0} (p : X → Bool) (xs : List X) (x : X) → Has xs x → p x ≡ true → list_any p xs ≡ true
any_of_has p [] x h e = absurd h
any_of_has p (z ∷ xs) x (inl same) e = or_left (p z) (list_any p xs) (ap p same ∙ e)
any_of_has p (z ∷ xs) x (inr h) e = or_right (p z) (list_any p xs) (any_of_has p xs x h e)

-- none passes where one that does is impossible
pub none_of_any : {X : Type 0} (p : X → Bool) (xs : List X) → ((x : X) → Has xs x → p x ≡ true → ⊥) → list_any p xs ≡ false
none_of_any p xs never = elim (cases_Bool (list_any p xs)) [
  | inl some ↦ let t = found_of_any p xs some in absurd (never t.item t.there t.passes)
  | inr none ↦ none
]

pub all_at : {X : Type 0} (p : X → Bool) (xs : List X) (x : X) → list_all p xs ≡ true → Has xs x → p x ≡ true
all_at p [] x h k = absurd k
all_at p (z ∷ xs) x h (inl e) = ap p (sym e) ∙ (and_parts (p z) (list_all p xs) h).0
all_at p (z ∷ xs) x h (inr k) = all_at p xs x (and_parts (p z) (list_all p xs) h).1 k

pub all_of_each : {X : Type 0} (p : X → Bool) (xs : List X) → ((x : X) → Has xs x → p x ≡ true) → list_all p xs ≡ true
all_of_each p [] h = refl
all_of_each p (z ∷ xs) h = rw (h z (inl refl)) (all_of_each p xs (λ x k. h x (inr k)))

-- ---- maps

pub has_map : {X Y : Type 0} (f : X → Y) (xs : List X) (x : X) → Has xs x → Has (map f xs) (f x)
has_map f [] x h = absurd h
has_map f (z ∷ xs) x (inl e) = inl (ap f e)
has_map f (z ∷ xs) x (inr h) = inr (has_map f xs x h)

-- what a mapped list has comes from an element
pub record IsImage {X Y : Type 0} (f : X → Y) (xs : List X) (y : Y) : Type 0 where
  pub item : X
  pub there : Has xs item
  pub is : f item ≡ y

pub image_of_has : {X Y : Type 0} (f : X → Y) (xs : List X) (y : Y) → Has (map f xs) y → IsImage f xs y
image_of_has f [] y h = absurd h
image_of_has f (z ∷ xs) y (inl e) = record { item = z; there = inl refl; is = e }
image_of_has f (z ∷ xs) y (inr h) = let t = image_of_has f xs y h in record { item = t.item; there = inr t.there; is = t.is }

-- ---- order

-- y is at a cut, and x before it
pub record IsCutAfter {X : Type 0} (xs : List X) (x y : X) : Type 0 where
  pub before : List X
  pub after : List X
  pub whole : xs ≡ before ++ y ∷ after
  pub first : Has before x

pub cut_after : {X : Type 0} (xs : List X) (x y : X) → Precedes xs x y → IsCutAfter xs x y
cut_after {X = X} [] x y h = absurd h
cut_after {X = X} (z ∷ xs) x y (inl h) =
    let t = cut_of_has xs y h.1 in record { before = z ∷ t.before; after = t.after; whole = ap (λ (l : List X). z ∷ l) t.whole; first = inl h.0 }
cut_after {X = X} (z ∷ xs) x y (inr h) =
    let t = cut_after xs x y h in
    record { before = z ∷ t.before; after = t.after; whole = ap (λ (l : List X). z ∷ l) t.whole; first = inr t.first }

pub precedes_cut : {X : Type 0} (a b : List X) (x y : X) → Has a x → Precedes (a ++ y ∷ b) x y
precedes_cut [] b x y h = absurd h
precedes_cut (z ∷ a) b x y (inl e) = inl (e, has_cut a b y)
precedes_cut (z ∷ a) b x y (inr h) = inr (precedes_cut a b x y h)

pub precedes_over : {X : Type 0} (a b : List X) (x y : X) → Has b y → Precedes (a ++ x ∷ b) x y
precedes_over [] b x y h = inl (refl, h)
precedes_over (z ∷ a) b x y h = inr (precedes_over a b x y h)

second_has : {X : Type 0} (xs : List X) (x y : X) → Precedes xs x y → Has xs y
second_has [] x y h = absurd h
second_has (z ∷ xs) x y (inl h) = inr h.1
second_has (z ∷ xs) x y (inr h) = inr (second_has xs x y h)

-- x precedes y in a list that is cut at y: it is before the cut, or y is elsewhere too
pub before_cut : {X : Type 0} (a b : List X) (x y : X) → Precedes (a ++ y ∷ b) x y → Has a x ⊎ Precedes (a ++ y ∷ b) y y
before_cut [] b x y (inl h) = inr (inl (refl, h.1))
before_cut [] b x y (inr h) = inr (inl (refl, second_has b x y h))
before_cut (z ∷ a) b x y (inl h) = inl (inl h.0)
before_cut (z ∷ a) b x y (inr h) = elim (before_cut a b x y h) [ inl before ↦ inl (inr before) | inr twice ↦ inr (inr twice) ]

-- ---- places

pub get_cut : {X : Type 0} (a b : List X) (x : X) → slice_get (a ++ x ∷ b) (length a) ≡ Some x
get_cut [] b x = refl
get_cut (z ∷ a) b x = get_cut a b x

pub take_cut : {X : Type 0} (a b : List X) → take (length a) (a ++ b) ≡ a
take_cut {X = X} [] b = refl
take_cut {X = X} (z ∷ a) b = ap (λ (l : List X). z ∷ l) (take_cut a b)
