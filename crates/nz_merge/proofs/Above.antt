-- Only keys above those that were taken first need be put in order.
use Rattle.std.proofs.Common.{◌≡◌, ℕ, Bool, true, false, cond, List, [], ◌∷◌, ◌++◌, length, leb, refl, sym, ap, subst, ◌∙◌, inl, inr}
use Rattle.std.specs.List.{filter, flat_map}
use Rattle.std.proofs.lemmas.Bool.{cases_Bool}
use Rattle.nz_base.specs.declared.key.Key.{Key}
use Rattle.nz_base.specs.Key.{key_below}
use Rattle.nz_base.specs.Log.{keys_of, is_above_last}
use Rattle.nz_base.proofs.Booleans.{true_and_false}
use Rattle.nz_base.proofs.Keys.{key_below-trans, never_self, never_both}
use Rattle.nz_merge.specs.Merged.{put_in_order, put_all_in_order, all_keys, keys_above, holders, is_taken, later_keys}
use Rattle.nz_merge.specs.declared.report.Report.{Report}
use Rattle.nz_merge.proofs.Ordering.{put_cases}

-- ---- above the last of some keys

-- a key above one that is above the last is above the last too
above_up : (base : List Key) (k x : Key) → is_above_last base k ≡ true → key_below k x ≡ true → is_above_last base x ≡ true
above_up [] k x above below = refl
above_up (b ∷ []) k x above below = key_below-trans b k x above below
above_up (b ∷ c ∷ base) k x above below = above_up (c ∷ base) k x above below

-- above keys and one more is above that one
last_of_more : (keys : List Key) (k x : Key) → is_above_last (keys ++ k ∷ []) x ≡ key_below k x
last_of_more [] k x = refl
last_of_more (a ∷ []) k x = refl
last_of_more (a ∷ b ∷ keys) k x = last_of_more (b ∷ keys) k x

-- ---- keys that pass a test, put in order

-- if a key passes, each key above it does
abbrev IsUpward : (Key → Bool) → Type 0
IsUpward p = (k x : Key) → p k ≡ true → key_below k x ≡ true → p x ≡ true

-- a key that is the first one is not put again
put_first : (key : Key) (keys : List Key) → put_in_order key (key ∷ keys) ≡ key ∷ keys
put_first key keys =
    put_cases (λ (xs : List Key). xs ≡ key ∷ keys) key key keys (λ lower. never_self key lower) (λ same. refl) (λ higher. never_self key higher)

-- a key above the first one is put among the others
put_later : (key k : Key) (keys : List Key) → key_below k key ≡ true → put_in_order key (k ∷ keys) ≡ k ∷ put_in_order key keys
put_later key k keys below = put_cases (λ (xs : List Key). xs ≡ k ∷ put_in_order key keys) key k keys
    (λ lower. never_both k key below lower)
    (λ same. never_self k (subst (λ (x : Key). key_below k x ≡ true) same below))
    (λ higher. refl)

-- a key is put among those that pass, if it passes
filter_put : (p : Key → Bool) → IsUpward p → (key : Key) (keys : List Key)
    → filter p (put_in_order key keys) ≡ cond (p key) (put_in_order key (filter p keys)) (filter p keys)
filter_put p up key [] = refl
filter_put p up key (k ∷ keys) =
    put_cases (λ (xs : List Key). filter p xs ≡ cond (p key) (put_in_order key (filter p (k ∷ keys))) (filter p (k ∷ keys))) key k keys
    (λ lower. elim (cases_Bool (p key)) [
      | inl own ↦ let other = up key k own lower in rw (own, other, lower) refl
      | inr away ↦ rw away refl
    ])
    (λ same. elim (cases_Bool (p key)) [
      | inl own ↦
          let other : p k ≡ true = subst (λ (x : Key). p x ≡ true) same own in
          rw (own, other) (subst (λ (x : Key). k ∷ filter p keys ≡ put_in_order x (k ∷ filter p keys)) (sym same) (sym (put_first k (filter p keys))))
      | inr away ↦ rw away refl
    ])
    (λ higher. elim (cases_Bool (p k)) [
      | inl other ↦
          let own = up k key other higher in
          let rest = filter_put p up key keys in
          rw (other, own) (ap (λ (xs : List Key). k ∷ xs) (rw own at rest) ∙ sym (put_later key k (filter p keys) higher))
      | inr away ↦ rw away (filter_put p up key keys)
    ])

-- the same keys are left, in the same order, if the test comes before they are put in order
filter_put_all : (p : Key → Bool) → IsUpward p → (others keys : List Key)
    → filter p (put_all_in_order others keys) ≡ put_all_in_order (filter p others) (filter p keys)
filter_put_all p up others [] = refl
filter_put_all p up others (k ∷ keys) =
    let rest = filter_put_all p up (put_in_order k others) keys
    ∙ ap (λ (xs : List Key). put_all_in_order xs (filter p keys)) (filter_put p up k others) in
    elim (cases_Bool (p k)) [
      | inl own ↦ rw own (rw own at rest)
      | inr away ↦ rw away (rw away at rest)
    ]

-- ---- going through the keys

-- a key that is not above the last is not taken
passed_over : (limit : ℕ) (reports : List Report) (taken : List Key) (k : Key) → is_above_last taken k ≡ false → is_taken limit reports taken k ≡ false
passed_over limit reports taken k away =
    elim (cases_Bool (leb limit (length (holders reports k)))) [
      | inl enough ↦ rw (enough, away) refl
      | inr few ↦ rw few refl
    ]

-- keys that are not above a base are passed over, if what is above what was taken is above the base
later_above : (limit : ℕ) (reports : List Report) (base taken keys : List Key)
    → ((x : Key) → is_above_last taken x ≡ true → is_above_last base x ≡ true)
    → later_keys limit reports taken (filter (is_above_last base) keys) ≡ later_keys limit reports taken keys
unfolding later_keys
later_above limit reports base taken [] up = refl
later_above limit reports base taken (k ∷ keys) up =
    elim (cases_Bool (is_above_last base k)) [
      | inl above ↦
          let more : (x : Key) → is_above_last (taken ++ k ∷ []) x ≡ true → is_above_last base x ≡ true =
          λ x h. above_up base k x above (sym (last_of_more taken k x) ∙ h) in
          elim (cases_Bool (is_taken limit reports taken k)) [
            | inl joins ↦ rw (above, joins) (ap (λ (xs : List Key). k ∷ xs) (later_above limit reports base (taken ++ k ∷ []) keys more))
            | inr away ↦ rw (above, away) (later_above limit reports base taken keys up)
          ]
      | inr below ↦
          let low : is_above_last taken k ≡ false = elim (cases_Bool (is_above_last taken k)) [
            | inl high ↦ true_and_false (is_above_last base k) (up k high) below
            | inr low ↦ low
          ] in
          let away = passed_over limit reports taken k low in
          rw (below, away) (later_above limit reports base taken keys up)
    ]

-- of the keys above what was taken, the same are taken as of all keys
pub same_later : (limit : ℕ) (reports : List Report) (taken : List Key)
    → later_keys limit reports taken (keys_above taken reports) ≡ later_keys limit reports taken (all_keys reports)
same_later limit reports taken =
    let keys = flat_map (λ c. keys_of c.log) reports in
    ap (λ (xs : List Key). later_keys limit reports taken xs) (sym (filter_put_all (is_above_last taken) (above_up taken) [] keys))
    ∙ later_above limit reports taken taken (all_keys reports) (λ x h. h)
