-- Which keys came: by a walk in both lists where they rise, and key by key.
use Rattle.std.proofs.Common.{◌≡◌, ℕ, zero, suc, ◌+◌, ◌<◌, ◌≤◌, Bool, true, false, cond, List, [], ◌∷◌, ◌++◌, length, refl, sym, ap, subst, ◌∙◌, inl}
use Rattle.std.proofs.Common.{inr, arith}
use Rattle.std.proofs.Common.{append_assoc, append-nil, add-one, length-drop, take_all}
use Rattle.std.specs.Prelude.{◌-◌, not, Some, take, drop, get_or, slice_get}
use Rattle.std.proofs.Math.Seq.{drop-cons}
use Rattle.std.proofs.lemmas.Bool.{cases_Bool, or_cases}
use Rattle.std.proofs.Math.Bool.{or-false}
use Rattle.std.proofs.lemmas.List.{take-append-drop, drop_all, take_more}
use Rattle.nz_base.specs.declared.key.Entry.{Entry}
use Rattle.nz_base.specs.declared.key.Key.{Key}
use Rattle.nz_base.specs.Key.{key_below, key_eq}
use Rattle.nz_base.specs.Log.{keys_of, has_key, AreRising}
use Rattle.nz_base.proofs.Booleans.{true_and_false}
use Rattle.nz_base.proofs.Keys.{key_below-self, never_both}
use Rattle.nz_base.proofs.Logs.{has_first, has_later, keys_append, rising_prefix, rising_back}
use Rattle.nz_base.proofs.Names.{same_key}
use Rattle.nz_machine.proofs.lists.ListParts.{take_next}
use Rattle.nz_story.specs.States.{came, came_text}

-- ---- lists

-- what is left from a place on
pub left : (keys : List Key) (i : ℕ) (x : Key) → i < length keys → x ≡ get_or keys i x → drop i keys ≡ x ∷ drop (i + 1) keys
left keys i x lt at =
    drop-cons keys i x lt ∙ ap (λ (k : Key). k ∷ drop (suc i) keys) (sym at) ∙ ap (λ (n : ℕ). x ∷ drop n keys) (sym (add-one i))

pub rising_left : (keys : List Key) (i : ℕ) → AreRising keys → AreRising (drop i keys)
rising_left keys i r = rising_back (take i keys) (drop i keys) (subst AreRising (sym (take-append-drop i keys)) r)

-- ---- the keys that came

-- no key comes to a list from within it
pub none_came : (all keys : List Key) → ((k : Key) → has_key keys k ≡ true → has_key all k ≡ true) → came all keys ≡ []
none_came all [] h = refl
none_came all (x ∷ keys) h = rw (h x (has_first x keys)) (none_came all keys (λ k there. h k (has_later x keys k there)))

came_next : (before keys : List Key) (key : Key) (b : Bool) → has_key before key ≡ b → came before (key ∷ keys) ≡ cond b [] (key ∷ []) ++ came before keys
came_next before keys key true e = rw e refl
came_next before keys key false e = rw e refl

-- one key more was looked at
pub came_more : (before after : List Key) (i : ℕ) (key : Key) (b : Bool) (found next all : List Key) → i < length after → key ≡ get_or after i key
    → b ≡ has_key before key → next ≡ found ++ cond b [] (key ∷ []) → found ++ came before (drop i after) ≡ all
    → next ++ came before (drop (i + 1) after) ≡ all
came_more before after i key b found next all lt at is step h =
    let rest = came before (drop (i + 1) after) in
    ap (λ (keys : List Key). keys ++ rest) step ∙ append_assoc found (cond b [] (key ∷ [])) rest
    ∙ ap (λ (keys : List Key). found ++ keys) (sym (came_next before (drop (i + 1) after) key b (sym is)) ∙ ap (came before) (sym (left after i key lt at)))
    ∙ h

-- all keys were looked at
pub came_all : (before after found all : List Key) (i : ℕ) → length after ≤ i → found ++ came before (drop i after) ≡ all → found ≡ all
came_all before after found all i le h = sym (append-nil found) ∙ ap (λ (keys : List Key). found ++ came before keys) (sym (drop_all i after le)) ∙ h

-- ---- a walk in both lists, which rise

-- a key that is not below this one is not one that is
other_key : (k x key : Key) → key_below x key ≡ true → key_below k key ≡ false → key_eq k x ≡ false
other_key k x key below not =
    elim (cases_Bool (key_eq k x)) [
      | inr away ↦ away
      | inl same ↦ true_and_false (key_below x key) below (subst (λ (a : Key). key_below a key ≡ false) (same_key k x same) not)
    ]

-- one key more is below
pub others_more : (keys : List Key) (i : ℕ) (x key k : Key) → i < length keys → x ≡ get_or keys i x → key_below x key ≡ true
    → key_below k key ≡ false → has_key keys k ≡ has_key (drop i keys) k → has_key keys k ≡ has_key (drop (i + 1) keys) k
others_more keys i x key k lt at below not h =
    h ∙ ap (λ (ks : List Key). has_key ks k) (left keys i x lt at)
    ∙ (rw (other_key k x key below not) refl)

-- the keys from one on are not below it
pub not_below : (keys : List Key) (key k : Key) → AreRising (key ∷ keys) → has_key (key ∷ keys) k ≡ true → key_below k key ≡ false
not_below keys key k r there =
    elim (cases_Bool (key_below k key)) [
      | inr away ↦ away
      | inl below ↦ elim (or_cases (key_eq k key) (has_key keys k) there) [
        | inl same ↦ subst (λ (a : Key). key_below a key ≡ false) (sym (same_key k key same)) (key_below-self key)
        | inr after ↦ never_both k key below (r.0 k after)
      ]
    ]

-- ---- the keys from a place on

-- The key at a place is among the keys from there on.
pub here : (keys : List Key) (i : ℕ) (key : Key) → i < length keys → key ≡ get_or keys i key → has_key (drop i keys) key ≡ true
here keys i key lt at = subst (λ (ks : List Key). has_key ks key ≡ true) (sym (left keys i key lt at)) (has_first key (drop (i + 1) keys))

-- A key of a later place is among the keys from here on.
pub later : (keys : List Key) (i : ℕ) (key k : Key) → i < length keys → key ≡ get_or keys i key → has_key (drop (i + 1) keys) k ≡ true
    → has_key (drop i keys) k ≡ true
later keys i key k lt at there =
    subst (λ (ks : List Key). has_key ks k ≡ true) (sym (left keys i key lt at)) (has_later key (drop (i + 1) keys) k there)

pub left_not_below : (keys : List Key) (i : ℕ) (key k : Key) → AreRising keys → i < length keys → key ≡ get_or keys i key
    → has_key (drop i keys) k ≡ true → key_below k key ≡ false
left_not_below keys i key k r lt at there =
    let e = left keys i key lt at in
    not_below (drop (i + 1) keys) key k (subst AreRising e (rising_left keys i r)) (subst (λ (ks : List Key). has_key ks k ≡ true) e there)

-- the key is among those of which none is below it only if it is the first
pub is_first_among : (x : Key) (keys : List Key) (key : Key) → AreRising (x ∷ keys) → key_below x key ≡ false → key_eq key x ≡ has_key (x ∷ keys) key
is_first_among x keys key r not = by_rest (has_key keys key) refl
  where
    by_rest : (b : Bool) → has_key keys key ≡ b → key_eq key x ≡ has_key (x ∷ keys) key
    by_rest true e = true_and_false (key_below x key) (r.0 key e) not
    by_rest false e = rw e (sym (or-false (key_eq key x)))

-- ---- slices, and the keys of entries

-- a slice to the end
pub slice_left : (keys : List Key) (i : ℕ) → take (length keys - i) (drop i keys) ≡ drop i keys
slice_left keys i = let long = length-drop i keys in take_all (length keys - i) (drop i keys) (omega (arith, long))

-- one entry more
pub keys_more : (es : List Entry) (i : ℕ) (e : Entry) → slice_get es i ≡ Some e → keys_of (take (i + 1) es) ≡ keys_of (take i es) ++ e.key ∷ []
keys_more es i e at = ap keys_of (take_next es i e at) ∙ keys_append (take i es) (e ∷ [])

-- no key came to a list of the same keys
pub none_new : (name : List ℕ) (keys after : List Key) (out : List ℕ) → keys ≡ after → out ≡ out ++ came_text name (came keys after)
none_new name keys after out same =
    sym (append-nil out)
    ∙ ap (λ (ks : List Key). out ++ came_text name ks) (sym (none_came keys keys (λ k there. there)) ∙ ap (came keys) same)

-- one key more is the entry's
pub are_more : (keys : List Key) (es : List Entry) (i : ℕ) (x : Key) (e : Entry) → i < length keys → x ≡ get_or keys i x → slice_get es i ≡ Some e
    → not (key_eq x e.key) ≡ false → take i keys ≡ keys_of (take i es) → take (i + 1) keys ≡ keys_of (take (i + 1) es)
are_more keys es i x e lt at there differs so_far =
    let same : x ≡ e.key = same_key x e.key (by_test (key_eq x e.key) differs) in
    take_more keys i x lt ∙ (λ j. so_far j ++ (sym at ∙ same) j ∷ []) ∙ sym (keys_more es i e there)
  where
    by_test : (b : Bool) → not b ≡ false → b ≡ true
    by_test true h = refl
    by_test false h = absurd cc

-- the keys of each part rise
pub rising_parts : (xs ys : List Entry) → AreRising (keys_of (xs ++ ys)) → AreRising (keys_of xs) × AreRising (keys_of ys)
rising_parts xs ys r =
    let both = subst AreRising (keys_append xs ys) r in (rising_prefix (keys_of xs) (keys_of ys) both, rising_back (keys_of xs) (keys_of ys) both)
