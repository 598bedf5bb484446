-- How often an id is in a list of entries: each id is in it once, where none is in it twice.
use Rattle.std.proofs.Common.{◌≡◌, ℕ, ◌+◌, ◌≤◌, Bool, true, false, cond, List, [], ◌∷◌, ◌++◌, refl, sym, ap, subst, ◌∙◌, inl, inr, arith}
use Rattle.std.proofs.lemmas.Bool.{cases_Bool, or_parts}
use Rattle.std.specs.List.{filter}
use Rattle.nz_base.specs.declared.key.Id.{Id}
use Rattle.nz_base.specs.declared.key.Entry.{Entry}
use Rattle.nz_base.specs.Key.{id_eq, id_of}
use Rattle.nz_base.specs.Log.{keys_of, has_id, HaveOwnIds}
use Rattle.nz_base.proofs.Names.{same_id, id_eq_self}

abbrev pub times : Id → List Entry → ℕ
times i [] = 0
times i (e ∷ es) = cond (id_eq i (id_of e.key)) 1 0 + times i es

pub times_append : (i : Id) (xs ys : List Entry) → times i (xs ++ ys) ≡ times i xs + times i ys
times_append i [] ys = omega arith
times_append i (x ∷ xs) ys =
    let rest = times_append i xs ys in
    omega (arith, rest)

-- ---- what filters keep

pub times_filter : (i : Id) (p : Entry → Bool) (xs : List Entry) → times i (filter p xs) ≤ times i xs
times_filter i p [] = omega arith
times_filter i p (x ∷ xs) =
    let rest = times_filter i p xs in
    elim (cases_Bool (p x)) [
      | inl kept ↦ rw kept (omega (arith, rest))
      | inr gone ↦ rw gone (omega (arith, rest))
    ]

-- no entry is kept by both
pub times_parts : (i : Id) (p q : Entry → Bool) → ((e : Entry) → p e ≡ true → q e ≡ false) → (xs : List Entry)
    → times i (filter p xs) + times i (filter q xs) ≤ times i xs
times_parts i p q apart [] = omega arith
times_parts i p q apart (x ∷ xs) =
    let rest = times_parts i p q apart xs in
    elim (cases_Bool (p x)) [
      | inl kept ↦ rw (kept, apart x kept) (omega (arith, rest))
      | inr gone ↦ elim (cases_Bool (q x)) [
        | inl other ↦ rw (gone, other) (omega (arith, rest))
        | inr none ↦ rw (gone, none) (omega (arith, rest))
      ]
    ]

-- nor one with the id
pub times_never : (i : Id) (p : Entry → Bool) → ((e : Entry) → p e ≡ true → id_eq i (id_of e.key) ≡ false) → (xs : List Entry) → times i (filter p xs) ≡ 0
times_never i p never [] = refl
times_never i p never (x ∷ xs) =
    elim (cases_Bool (p x)) [
      | inl kept ↦ let rest = times_never i p never xs in rw (kept, never x kept) (omega (arith, rest))
      | inr gone ↦ rw gone (times_never i p never xs)
    ]

-- ---- ids that are there once

pub times_none : (i : Id) (xs : List Entry) → has_id (keys_of xs) i ≡ false → times i xs ≡ 0
times_none i [] none = refl
times_none i (x ∷ xs) none =
    let rest = times_none i xs (or_parts (id_eq i (id_of x.key)) (has_id (keys_of xs) i) none).1 in
    rw ((or_parts (id_eq i (id_of x.key)) (has_id (keys_of xs) i) none).0) (omega (arith, rest))

pub none_times : (i : Id) (xs : List Entry) → times i xs ≡ 0 → has_id (keys_of xs) i ≡ false
none_times i [] none = refl
none_times i (x ∷ xs) none =
    elim (cases_Bool (id_eq i (id_of x.key))) [
      | inl here ↦ let some : 1 + times i xs ≡ 0 = rw here at none in absurd (omega arith)
      | inr away ↦ let rest : 0 + times i xs ≡ 0 = rw away at none in rw away (none_times i xs (omega (arith, rest)))
    ]

pub own_times : (i : Id) (xs : List Entry) → HaveOwnIds (keys_of xs) → times i xs ≤ 1
own_times i [] own = omega arith
own_times i (x ∷ xs) own =
    elim (cases_Bool (id_eq i (id_of x.key))) [
      | inl here ↦
          let none : times i xs ≡ 0 = times_none i xs (subst (λ (j : Id). has_id (keys_of xs) j ≡ false) (sym (same_id i (id_of x.key) here)) own.0) in
          rw here (omega (arith, none))
      | inr away ↦ let rest = own_times i xs own.1 in rw away (omega (arith, rest))
    ]

pub times_own : (xs : List Entry) → ((i : Id) → times i xs ≤ 1) → HaveOwnIds (keys_of xs)
times_own [] once = tt
times_own (x ∷ xs) once =
    let first : 1 + times (id_of x.key) xs ≤ 1 = rw (id_eq_self (id_of x.key)) at (once (id_of x.key)) in (
      none_times (id_of x.key) xs (omega (arith, first)),
      times_own xs (λ i. let all = once i in omega (arith, all)),
    )

-- log, early and late together
pub times_all : (i : Id) (xs ys zs : List Entry) → times i (xs ++ (ys ++ zs)) ≡ times i xs + (times i ys + times i zs)
times_all i xs ys zs = times_append i xs (ys ++ zs) ∙ ap (λ (n : ℕ). times i xs + n) (times_append i ys zs)
