-- Keys of several lists that rise one after the other, and ids that are in one of them alone.
use Rattle.std.proofs.Common.{◌≡◌, true, false, ◌||◌, List, [], ◌∷◌, ◌++◌, refl, sym, subst, ◌∙◌, inl, inr, ◌⊎◌}
use Rattle.std.proofs.lemmas.Bool.{cases_Bool, or_cases, or_left, or_right, or_parts}
use Rattle.nz_base.specs.declared.key.Id.{Id}
use Rattle.nz_base.specs.declared.key.Key.{Key}
use Rattle.nz_base.specs.declared.key.Entry.{Entry}
use Rattle.nz_base.specs.Key.{key_below, id_eq, id_of}
use Rattle.nz_base.specs.Log.{keys_of, has_key, has_id, AreRising, HaveOwnIds}
use Rattle.nz_base.proofs.Names.{same_id, id_eq_self}
use Rattle.nz_base.proofs.Logs.{has_append, has_first, has_later, has_id-append}
use Rattle.nz_buffers.specs.Buffers.{insert_by_key, without}

-- ---- rising keys

pub rising_both : (xs ys : List Key) → AreRising xs → AreRising ys
    → ((a b : Key) → has_key xs a ≡ true → has_key ys b ≡ true → key_below a b ≡ true) → AreRising (xs ++ ys)
rising_both [] ys prefix back below = back
rising_both (x ∷ xs) ys prefix back below = (
  λ k h. elim (has_append xs ys k h) [
    | inl there ↦ prefix.0 k there
    | inr after ↦ below x k (has_first x xs) after
  ],
  rising_both xs ys prefix.1 back (λ a b ha hb. below a b (has_later x xs a ha) hb),
)

-- ---- ids

-- an id of a prefix is not in the rest
pub own_apart : (xs ys : List Key) (i : Id) → HaveOwnIds (xs ++ ys) → has_id xs i ≡ true → has_id ys i ≡ false
own_apart [] ys i own there = absurd cc
own_apart (x ∷ xs) ys i own there =
    elim (or_cases (id_eq i (id_of x)) (has_id xs i) there) [
      | inl here ↦
          let none : (has_id xs (id_of x) || has_id ys (id_of x)) ≡ false = sym (has_id-append xs ys (id_of x)) ∙ own.0 in
          subst (λ (j : Id). has_id ys j ≡ false) (sym (same_id i (id_of x) here)) (or_parts (has_id xs (id_of x)) (has_id ys (id_of x)) none).1
      | inr after ↦ own_apart xs ys i own.1 after
    ]

pub own_both : (xs ys : List Key) → HaveOwnIds xs → HaveOwnIds ys → ((i : Id) → has_id xs i ≡ true → has_id ys i ≡ false) → HaveOwnIds (xs ++ ys)
own_both [] ys prefix back apart = back
own_both (x ∷ xs) ys prefix back apart =
    let away : has_id ys (id_of x) ≡ false = apart (id_of x) (or_left (id_eq (id_of x) (id_of x)) (has_id xs (id_of x)) (id_eq_self (id_of x))) in
    let none : has_id (xs ++ ys) (id_of x) ≡ false = has_id-append xs ys (id_of x) ∙ (rw (prefix.0, away) refl) in
    (none, own_both xs ys prefix.1 back (λ i h. apart i (or_right (id_eq i (id_of x)) (has_id xs i) h)))

pub own_rest : (xs ys : List Key) → HaveOwnIds (xs ++ ys) → HaveOwnIds ys
own_rest [] ys own = own
own_rest (x ∷ xs) ys own = own_rest xs ys own.1

-- no id of a list that has none of them
pub none_of : (xs ys : List Key) (i : Id) → has_id xs i ≡ false → has_id ys i ≡ false → has_id (xs ++ ys) i ≡ false
none_of xs ys i prefix back = has_id-append xs ys i ∙ (rw (prefix, back) refl)

-- what was put in has the id, or another one
pub has_id_inserted : (es : List Entry) (e : Entry) (i : Id) → has_id (keys_of (insert_by_key es e)) i ≡ true
    → (i ≡ id_of e.key) ⊎ (has_id (keys_of es) i ≡ true)
has_id_inserted [] e i h =
    elim (or_cases (id_eq i (id_of e.key)) false h) [
      | inl here ↦ inl (same_id i (id_of e.key) here)
      | inr none ↦ absurd cc
    ]
has_id_inserted (f ∷ fs) e i h =
    elim (cases_Bool (key_below e.key f.key)) [
      | inl lower ↦ elim (or_cases (id_eq i (id_of e.key)) (has_id (keys_of (f ∷ fs)) i) (rw lower at h)) [
        | inl here ↦ inl (same_id i (id_of e.key) here)
        | inr there ↦ inr there
      ]
      | inr not_lower ↦ elim (or_cases (id_eq i (id_of f.key)) (has_id (keys_of (insert_by_key fs e)) i) (rw not_lower at h)) [
        | inl first ↦ inr (or_left (id_eq i (id_of f.key)) (has_id (keys_of fs) i) first)
        | inr there ↦ elim (has_id_inserted fs e i there) [
          | inl own ↦ inl own
          | inr old ↦ inr (or_right (id_eq i (id_of f.key)) (has_id (keys_of fs) i) old)
        ]
      ]
    ]

-- an id that was taken out is not there
pub gone_without : (es : List Entry) (i : Id) → has_id (keys_of (without es i)) i ≡ false
gone_without [] i = refl
gone_without (e ∷ es) i =
    elim (cases_Bool (id_eq i (id_of e.key))) [
      | inl here ↦ rw here (gone_without es i)
      | inr away ↦ rw (away, away) (gone_without es i)
    ]
