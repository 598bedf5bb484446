-- The place of an id.
use Rattle.std.proofs.Common.{◌≡◌, ℕ, zero, suc, ◌<◌, true, false, List, [], ◌∷◌, length, take, Option, Some}
use Rattle.std.proofs.Common.{None, IfSome, IfNone, is_some, refl, sym, ap, subst, ◌∙◌, inl, inr, arith}
use Rattle.std.proofs.lemmas.Bool.{cases_Bool, or_left, or_right, or_parts}
use Rattle.std.specs.Option.{option_map}
use Rattle.nz_base.specs.declared.key.Id.{Id}
use Rattle.nz_base.specs.declared.key.Entry.{Entry}
use Rattle.nz_base.specs.Key.{id_eq, id_of}
use Rattle.nz_base.specs.Log.{keys_of, has_id, HaveOwnIds, IsFirstPlace}
use Rattle.nz_base.proofs.Names.{same_id}
use Rattle.nz_base.proofs.Booleans.{true_and_false}
use Rattle.nz_log.specs.Places.{place_of, IsPlace}

pub place_held : (es : List Entry) (i : Id) → is_some (place_of es i) ≡ has_id (keys_of es) i
place_held [] i = refl
place_held (e ∷ es) i =
    elim (cases_Bool (id_eq i (id_of e.key))) [
      | inl here ↦ rw here refl
      | inr away ↦ rw away (mapped (place_of es i) ∙ place_held es i)
    ]
  where
    mapped : (o : Option ℕ) → is_some (option_map suc o) ≡ is_some o
    mapped None = refl
    mapped (Some n) = refl

pub place_none : (es : List Entry) (i : Id) → has_id (keys_of es) i ≡ false → place_of es i ≡ None
place_none es i h = none (place_of es i) (place_held es i ∙ h)
  where
    none : (o : Option ℕ) → is_some o ≡ false → o ≡ None
    none None h = refl
    none (Some n) h = absurd cc

-- the first place of an id is one
pub first_is_place : (es : List Entry) (i : Id) (place : ℕ) → IsFirstPlace es i place → IsPlace es i place
first_is_place es i place at = record { within = at.within; here = at.here }

-- the first place of an id is its place
pub first_place : (es : List Entry) (i : Id) (place : ℕ) → IsFirstPlace es i place → place_of es i ≡ Some place
first_place [] i place at = absurd (let none : place < 0 = at.within in omega arith)
first_place (e ∷ es) i zero at = rw (at.here e) refl
first_place (e ∷ es) i (suc place) at =
    let away = (or_parts (id_eq i (id_of e.key)) (has_id (keys_of (take place es)) i) at.not_before).0 in
    let within : suc place < length (e ∷ es) = at.within in
    let rest : IsFirstPlace es i place =
    record {
      within = omega arith;
      here = at.here;
      not_before = (or_parts (id_eq i (id_of e.key)) (has_id (keys_of (take place es)) i) at.not_before).1;
    } in
    rw away (ap (λ (o : Option ℕ). option_map suc o) (first_place es i place rest))

some_same : (a b : ℕ) → Some a ≡ Some b → a ≡ b
some_same a b h = cc

pub place_found : (es : List Entry) (i : Id) (place : ℕ) → place_of es i ≡ Some place → IsPlace es i place
place_found [] i place h = absurd cc
place_found (e ∷ es) i place h =
    elim (cases_Bool (id_eq i (id_of e.key))) [
      | inl here ↦
          let first : 0 ≡ place = some_same 0 place (rw here at h) in
          subst (λ (n : ℕ). IsPlace (e ∷ es) i n) first (record { within = omega arith; here = λ d. here })
      | inr away ↦ further (place_of es i) place (place_found es i) (rw away at h)
    ]
  where
    further : (o : Option ℕ) (place : ℕ) → ((n : ℕ) → o ≡ Some n → IsPlace es i n) → option_map suc o ≡ Some place → IsPlace (e ∷ es) i place
    further None place found h = absurd cc
    further (Some n) place found h =
        let at = found n refl in
        let within : n < length es = at.within in
        subst (λ (m : ℕ). IsPlace (e ∷ es) i m) (some_same (suc n) place h) (record { within = omega arith; here = at.here })

-- what is at a place is among the keys
pub held_at : (es : List Entry) (i : Id) (place : ℕ) → IsPlace es i place → has_id (keys_of es) i ≡ true
held_at [] i place at = absurd (let none : place < 0 = at.within in omega arith)
held_at (e ∷ es) i zero at = or_left (id_eq i (id_of e.key)) (has_id (keys_of es) i) (at.here e)
held_at (e ∷ es) i (suc place) at =
    let within : suc place < length (e ∷ es) = at.within in
    or_right (id_eq i (id_of e.key)) (has_id (keys_of es) i) (held_at es i place (record { within = omega arith; here = at.here }))

pub place_only : (es : List Entry) (i : Id) (place : ℕ) → HaveOwnIds (keys_of es) → IsPlace es i place → place_of es i ≡ Some place
place_only [] i place own at = absurd (let none : place < 0 = at.within in omega arith)
place_only (e ∷ es) i zero own at = rw (at.here e) refl
place_only (e ∷ es) i (suc place) own at =
    let within : suc place < length (e ∷ es) = at.within in
    let rest : IsPlace es i place = record { within = omega arith; here = at.here } in
    elim (cases_Bool (id_eq i (id_of e.key))) [
      | inr away ↦ rw away (ap (λ (o : Option ℕ). option_map suc o) (place_only es i place own.1 rest))
      | inl here ↦
          true_and_false (has_id (keys_of es) (id_of e.key))
          (subst (λ (j : Id). has_id (keys_of es) j ≡ true) (same_id i (id_of e.key) here) (held_at es i place rest)) own.0
    ]

-- a search shows whether the id is held
pub search_shows : (found : Option ℕ) (es : List Entry) (i : Id) → IfSome found (λ place. IsFirstPlace es i place)
    → IfNone found (has_id (keys_of es) i ≡ false) → is_some found ≡ has_id (keys_of es) i
search_shows None es i at away = sym away
search_shows (Some place) es i at away = sym (held_at es i place (first_is_place es i place at))
