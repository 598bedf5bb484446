-- Lists of keys and logs: parts of them, put together, filtered, and what comes last.
use Rattle.std.proofs.Common.{◌≡◌, suc, ◌-◌, Bool, true, false, ◌||◌, List, [], ◌∷◌, ◌++◌, length, Some}
use Rattle.std.proofs.Common.{None, slice_get, refl, sym, ap, subst, ◌∙◌, inl, inr, ◌⊎◌, arith}
use Rattle.std.proofs.lemmas.Bool.{cases_Bool, or_cases, or_left, or_right, or_parts}
use Rattle.std.specs.List.{filter}
use Rattle.std.proofs.lemmas.List.{map-append, append-nil}
use Rattle.std.proofs.lemmas.List.Folds.{list_any-append}
use Rattle.nz_base.specs.declared.key.Id.{Id}
use Rattle.nz_base.specs.declared.key.Key.{Key}
use Rattle.nz_base.specs.declared.key.Entry.{Entry}
use Rattle.nz_base.specs.Key.{key_below, key_eq, id_eq, id_of}
use Rattle.nz_base.specs.Log.{keys_of, has_key, has_id, AreRising, HaveOwnIds, IsLog, is_above_last}
use Rattle.nz_base.proofs.Booleans.{true_and_false}
use Rattle.nz_base.proofs.Keys.{key_below-trans}
use Rattle.nz_base.proofs.Names.{key_eq_self, same_key, id_eq_self, same_id, id_turn_away}

-- ---- keys in lists

pub has_first : (k : Key) (keys : List Key) → has_key (k ∷ keys) k ≡ true
has_first k keys = or_left (key_eq k k) (has_key keys k) (key_eq_self k)

pub has_later : (k : Key) (keys : List Key) (x : Key) → has_key keys x ≡ true → has_key (k ∷ keys) x ≡ true
has_later k keys x h = or_right (key_eq x k) (has_key keys x) h

pub has_append : (xs ys : List Key) (x : Key) → has_key (xs ++ ys) x ≡ true → (has_key xs x ≡ true) ⊎ (has_key ys x ≡ true)
has_append xs ys x h = or_cases (has_key xs x) (has_key ys x) (sym (list_any-append (key_eq x) xs ys) ∙ h)

pub has_in_prefix : (xs ys : List Key) (x : Key) → has_key xs x ≡ true → has_key (xs ++ ys) x ≡ true
has_in_prefix xs ys x h = list_any-append (key_eq x) xs ys ∙ or_left (has_key xs x) (has_key ys x) h

pub has_back : (xs ys : List Key) (x : Key) → has_key ys x ≡ true → has_key (xs ++ ys) x ≡ true
has_back xs ys x h = list_any-append (key_eq x) xs ys ∙ or_right (has_key xs x) (has_key ys x) h

-- ids of a list are those of its parts
pub has_id-append : (xs ys : List Key) (i : Id) → has_id (xs ++ ys) i ≡ (has_id xs i || has_id ys i)
has_id-append xs ys i = list_any-append (λ k. id_eq i (id_of k)) xs ys

pub keys_append : (xs ys : List Entry) → keys_of (xs ++ ys) ≡ keys_of xs ++ keys_of ys
keys_append xs ys = map-append (λ (e : Entry). e.key) xs ys

-- ---- rising keys

pub rising_prefix : (xs ys : List Key) → AreRising (xs ++ ys) → AreRising xs
rising_prefix [] ys r = tt
rising_prefix (x ∷ xs) ys r = (λ k h. r.0 k (has_in_prefix xs ys k h), rising_prefix xs ys r.1)

pub rising_back : (xs ys : List Key) → AreRising (xs ++ ys) → AreRising ys
rising_back [] ys r = r
rising_back (x ∷ xs) ys r = rising_back xs ys r.1

-- those of a prefix come before those of the rest
pub prefix_below : (xs ys : List Key) (a b : Key) → AreRising (xs ++ ys) → has_key xs a ≡ true → has_key ys b ≡ true → key_below a b ≡ true
prefix_below [] ys a b r ha hb = absurd cc
prefix_below (x ∷ xs) ys a b r ha hb =
    elim (or_cases (key_eq a x) (has_key xs a) ha) [
      | inl same ↦ subst (λ (k : Key). key_below k b ≡ true) (sym (same_key a x same)) (r.0 b (has_back xs ys b hb))
      | inr there ↦ prefix_below xs ys a b r.1 there hb
    ]

-- above the last of rising keys is above each of them
pub above_each : (keys : List Key) (key x : Key) → AreRising keys → is_above_last keys key ≡ true → has_key keys x ≡ true → key_below x key ≡ true
above_each [] key x r above h = absurd cc
above_each (k ∷ []) key x r above h =
    elim (or_cases (key_eq x k) false h) [
      | inl same ↦ subst (λ (a : Key). key_below a key ≡ true) (sym (same_key x k same)) above
      | inr none ↦ absurd cc
    ]
above_each (k ∷ l ∷ keys) key x r above h =
    elim (or_cases (key_eq x k) (has_key (l ∷ keys) x) h) [
      | inl same ↦
          let next : key_below l key ≡ true = above_each (l ∷ keys) key l r.1 above (has_first l keys) in
          subst (λ (a : Key). key_below a key ≡ true) (sym (same_key x k same)) (key_below-trans k l key (r.0 l (has_first l keys)) next)
      | inr there ↦ above_each (l ∷ keys) key x r.1 above there
    ]

pub above_last : (keys : List Key) (key : Key) → ((x : Key) → has_key keys x ≡ true → key_below x key ≡ true) → is_above_last keys key ≡ true
above_last [] key h = refl
above_last (k ∷ []) key h = h k (has_first k [])
above_last (k ∷ l ∷ keys) key h = above_last (l ∷ keys) key (λ x there. h x (has_later k (l ∷ keys) x there))

-- a prefix, a key above it, and a rest above the key
pub rising_join : (xs : List Key) (k : Key) (ys : List Key) → AreRising xs → AreRising ys
    → ((x : Key) → has_key xs x ≡ true → key_below x k ≡ true) → ((y : Key) → has_key ys y ≡ true → key_below k y ≡ true)
    → AreRising (xs ++ k ∷ ys)
rising_join [] k ys prefix back lower upper = (upper, back)
rising_join (x ∷ xs) k ys prefix back lower upper = (
  λ y there. elim (has_append xs (k ∷ ys) y there) [
    | inl early ↦ prefix.0 y early
    | inr late ↦
        let below : key_below x k ≡ true = lower x (has_first x xs) in
        elim (or_cases (key_eq y k) (has_key ys y) late) [
          | inl same ↦ subst (λ (z : Key). key_below x z ≡ true) (sym (same_key y k same)) below
          | inr after ↦ key_below-trans x k y below (upper y after)
        ]
  ],
  rising_join xs k ys prefix.1 back (λ z there. lower z (has_later x xs z there)) upper,
)

pub rising_more : (keys : List Key) (key : Key) → AreRising keys → is_above_last keys key ≡ true → AreRising (keys ++ key ∷ [])
rising_more keys key r above = rising_join keys key [] r tt (λ x h. above_each keys key x r above h) (λ y none. absurd cc)

-- ---- ids

pub own_in_prefix : (xs ys : List Key) → HaveOwnIds (xs ++ ys) → HaveOwnIds xs
own_in_prefix [] ys own = tt
own_in_prefix (x ∷ xs) ys own = (
  (or_parts (has_id xs (id_of x)) (has_id ys (id_of x)) (sym (has_id-append xs ys (id_of x)) ∙ own.0)).0,
  own_in_prefix xs ys own.1,
)

-- the id of a key is not among those before it
pub own_id : (xs : List Key) (k : Key) (ys : List Key) → HaveOwnIds (xs ++ k ∷ ys) → has_id xs (id_of k) ≡ false
own_id [] k ys own = refl
own_id (x ∷ xs) k ys own =
    elim (cases_Bool (id_eq (id_of k) (id_of x))) [
      | inr apart ↦ rw apart (own_id xs k ys own.1)
      | inl same ↦
          let turned : id_eq (id_of x) (id_of k) ≡ true =
          subst (λ (i : Id). id_eq (id_of x) i ≡ true) (sym (same_id (id_of k) (id_of x) same)) (id_eq_self (id_of x)) in
          let there : has_id (xs ++ k ∷ ys) (id_of x) ≡ true =
          has_id-append xs (k ∷ ys) (id_of x)
          ∙ or_right (has_id xs (id_of x)) (has_id (k ∷ ys) (id_of x)) (or_left (id_eq (id_of x) (id_of k)) (has_id ys (id_of x)) turned) in
          true_and_false (has_id (xs ++ k ∷ ys) (id_of x)) there own.0
    ]

-- a prefix, a key whose id is nowhere else, and a rest
pub own_join : (xs : List Key) (k : Key) (ys : List Key) → HaveOwnIds (xs ++ ys) → has_id xs (id_of k) ≡ false
    → has_id ys (id_of k) ≡ false → HaveOwnIds (xs ++ k ∷ ys)
own_join [] k ys own prefix back = (back, own)
own_join (x ∷ xs) k ys own prefix back =
    let apart = id_turn_away (id_of k) (id_of x) (or_parts (id_eq (id_of k) (id_of x)) (has_id xs (id_of k)) prefix).0 in
    let rest = (or_parts (id_eq (id_of k) (id_of x)) (has_id xs (id_of k)) prefix).1 in
    let parted : (has_id xs (id_of x) || has_id ys (id_of x)) ≡ false = sym (has_id-append xs ys (id_of x)) ∙ own.0 in
    let new : has_id (xs ++ k ∷ ys) (id_of x) ≡ false =
    has_id-append xs (k ∷ ys) (id_of x)
    ∙ (rw ((or_parts (has_id xs (id_of x)) (has_id ys (id_of x)) parted).0, apart) (or_parts (has_id xs (id_of x)) (has_id ys (id_of x)) parted).1) in
    (new, own_join xs k ys own.1 rest back)

pub own_more : (keys : List Key) (key : Key) → HaveOwnIds keys → has_id keys (id_of key) ≡ false → HaveOwnIds (keys ++ key ∷ [])
own_more keys key own fresh = own_join keys key [] (subst HaveOwnIds (sym (append-nil keys)) own) fresh refl

-- ---- one entry more

pub own_push : (es : List Entry) (e : Entry) → HaveOwnIds (keys_of es) → has_id (keys_of es) (id_of e.key) ≡ false → HaveOwnIds (keys_of (es ++ e ∷ []))
own_push es e own fresh = subst HaveOwnIds (sym (keys_append es (e ∷ []))) (own_more (keys_of es) e.key own fresh)

pub log_push : (es : List Entry) (e : Entry) → IsLog es → is_above_last (keys_of es) e.key ≡ true
    → has_id (keys_of es) (id_of e.key) ≡ false → IsLog (es ++ e ∷ [])
log_push es e log above fresh =
    record {
      rising = subst AreRising (sym (keys_append es (e ∷ []))) (rising_more (keys_of es) e.key log.rising above);
      own_ids = own_push es e log.own_ids fresh;
    }

-- ---- what a filter keeps

pub has_key_filter : (p : Entry → Bool) (es : List Entry) (x : Key) → has_key (keys_of (filter p es)) x ≡ true → has_key (keys_of es) x ≡ true
has_key_filter p [] x h = h
has_key_filter p (e ∷ es) x h =
    elim (cases_Bool (p e)) [
      | inl kept ↦ elim (or_cases (key_eq x e.key) (has_key (keys_of (filter p es)) x) (rw kept at h)) [
        | inl first ↦ or_left (key_eq x e.key) (has_key (keys_of es) x) first
        | inr there ↦ or_right (key_eq x e.key) (has_key (keys_of es) x) (has_key_filter p es x there)
      ]
      | inr gone ↦ or_right (key_eq x e.key) (has_key (keys_of es) x) (has_key_filter p es x (rw gone at h))
    ]

pub has_id_filter : (p : Entry → Bool) (es : List Entry) (i : Id) → has_id (keys_of es) i ≡ false → has_id (keys_of (filter p es)) i ≡ false
has_id_filter p [] i h = h
has_id_filter p (e ∷ es) i h =
    let rest = has_id_filter p es i (or_parts (id_eq i (id_of e.key)) (has_id (keys_of es) i) h).1 in
    elim (cases_Bool (p e)) [
      | inl kept ↦ rw (kept, (or_parts (id_eq i (id_of e.key)) (has_id (keys_of es) i) h).0) rest
      | inr gone ↦ rw gone rest
    ]

pub rising_filter : (p : Entry → Bool) (es : List Entry) → AreRising (keys_of es) → AreRising (keys_of (filter p es))
rising_filter p [] r = tt
rising_filter p (e ∷ es) r =
    elim (cases_Bool (p e)) [
      | inl kept ↦ rw kept (λ x h. r.0 x (has_key_filter p es x h), rising_filter p es r.1)
      | inr gone ↦ rw gone (rising_filter p es r.1)
    ]

pub own_filter : (p : Entry → Bool) (es : List Entry) → HaveOwnIds (keys_of es) → HaveOwnIds (keys_of (filter p es))
own_filter p [] own = tt
own_filter p (e ∷ es) own =
    elim (cases_Bool (p e)) [
      | inl kept ↦ rw kept (has_id_filter p es (id_of e.key) own.0, own_filter p es own.1)
      | inr gone ↦ rw gone (own_filter p es own.1)
    ]

pub log_filter : (p : Entry → Bool) (es : List Entry) → IsLog es → IsLog (filter p es)
log_filter p es log = record { rising = rising_filter p es log.rising; own_ids = own_filter p es log.own_ids }

-- ---- the last entry

pub above_none : (log : List Entry) (key : Key) → slice_get log (length log - 1) ≡ None → is_above_last (keys_of log) key ≡ true
above_none [] key h = refl
above_none (e ∷ []) key h = absurd cc
above_none (e ∷ f ∷ log) key h =
    let last : length (e ∷ f ∷ log) - 1 ≡ suc (length (f ∷ log) - 1) = omega arith in
    above_none (f ∷ log) key (rw last at h)

pub above_some : (log : List Entry) (key : Key) (last : Entry) → slice_get log (length log - 1) ≡ Some last
    → is_above_last (keys_of log) key ≡ key_below last.key key
above_some [] key last h = absurd cc
above_some (e ∷ []) key last h = let same : e ≡ last = cc in ap (λ (x : Entry). key_below x.key key) same
above_some (e ∷ f ∷ log) key last h =
    let place : length (e ∷ f ∷ log) - 1 ≡ suc (length (f ∷ log) - 1) = omega arith in
    above_some (f ∷ log) key last (rw place at h)
