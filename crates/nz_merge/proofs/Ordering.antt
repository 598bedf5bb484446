-- Keys put in order rise, and are the keys that were put.
use Rattle.std.proofs.Common.{◌≡◌, true, false, List, [], ◌∷◌, ◌++◌, refl, sym, subst, inl, inr, ◌⊎◌}
use Rattle.std.proofs.lemmas.Bool.{cases_Bool, or_cases, or_left}
use Rattle.nz_base.specs.declared.key.Key.{Key}
use Rattle.nz_base.specs.Key.{key_below, key_eq}
use Rattle.nz_base.specs.Log.{has_key, AreRising}
use Rattle.nz_base.proofs.Keys.{key_below-trans, key_below-total}
use Rattle.nz_base.proofs.Names.{key_eq_self, same_key}
use Rattle.nz_base.proofs.Booleans.{true_and_false}
use Rattle.nz_base.proofs.Logs.{has_first, has_later}
use Rattle.nz_merge.specs.Merged.{put_in_order, put_all_in_order, sorted_keys}

-- by how two keys are ordered
pub put_cases : (P : List Key → Type 0) (key k : Key) (keys : List Key)
    → (key_below key k ≡ true → P (key ∷ k ∷ keys))
    → (key ≡ k → P (k ∷ keys))
    → (key_below k key ≡ true → P (k ∷ put_in_order key keys))
    → P (put_in_order key (k ∷ keys))
put_cases P key k keys below same above =
    elim (cases_Bool (key_below key k)) [
      | inl lower ↦ rw lower (below lower)
      | inr not_lower ↦
          elim (cases_Bool (key_eq key k)) [
            | inl equal ↦ rw (not_lower, equal) (same (same_key key k equal))
            | inr other ↦
                let higher : key_below k key ≡ true = elim (cases_Bool (key_below k key)) [
                  | inl yes_higher ↦ yes_higher
                  | inr not_higher ↦
                      true_and_false (key_eq key k) (subst (λ (x : Key). key_eq key x ≡ true)
                      (key_below-total key k not_lower not_higher) (key_eq_self key)) other
                ] in
                rw (not_lower, other) (above higher)
          ]
    ]

pub has_put : (key : Key) (keys : List Key) → has_key (put_in_order key keys) key ≡ true
has_put key [] = has_first key []
has_put key (k ∷ keys) = put_cases (λ (xs : List Key). has_key xs key ≡ true) key k keys
    (λ lower. has_first key (k ∷ keys))
    (λ same. subst (λ (x : Key). has_key (k ∷ keys) x ≡ true) (sym same) (has_first k keys))
    (λ higher. has_later k (put_in_order key keys) key (has_put key keys))

pub has_kept : (key : Key) (keys : List Key) (x : Key) → has_key keys x ≡ true → has_key (put_in_order key keys) x ≡ true
has_kept key [] x h = absurd cc
has_kept key (k ∷ keys) x h = put_cases (λ (xs : List Key). has_key xs x ≡ true) key k keys
    (λ lower. has_later key (k ∷ keys) x h)
    (λ same. h)
    (λ higher. elim (or_cases (key_eq x k) (has_key keys x) h) [
      | inl first ↦ or_left (key_eq x k) (has_key (put_in_order key keys) x) first
      | inr there ↦ has_later k (put_in_order key keys) x (has_kept key keys x there)
    ])

pub has_only : (key : Key) (keys : List Key) (x : Key) → has_key (put_in_order key keys) x ≡ true → (x ≡ key) ⊎ (has_key keys x ≡ true)
has_only key [] x h =
    elim (or_cases (key_eq x key) false h) [
      | inl first ↦ inl (same_key x key first)
      | inr none ↦ absurd cc
    ]
has_only key (k ∷ keys) x h = put_cases (λ (xs : List Key). has_key xs x ≡ true → (x ≡ key) ⊎ (has_key (k ∷ keys) x ≡ true)) key k keys
    (λ lower there. elim (or_cases (key_eq x key) (has_key (k ∷ keys) x) there) [
      | inl first ↦ inl (same_key x key first)
      | inr later ↦ inr later
    ])
    (λ same there. inr there)
    (λ higher there. elim (or_cases (key_eq x k) (has_key (put_in_order key keys) x) there) [
      | inl first ↦ inr (or_left (key_eq x k) (has_key keys x) first)
      | inr later ↦ elim (has_only key keys x later) [
        | inl own ↦ inl own
        | inr old ↦ inr (has_later k keys x old)
      ]
    ])
    h

pub put_rising : (key : Key) (keys : List Key) → AreRising keys → AreRising (put_in_order key keys)
put_rising key [] r = (λ x h. absurd cc, tt)
put_rising key (k ∷ keys) r = put_cases AreRising key k keys
    (λ lower. (
      λ x h. elim (or_cases (key_eq x k) (has_key keys x) h) [
        | inl first ↦ subst (λ (y : Key). key_below key y ≡ true) (sym (same_key x k first)) lower
        | inr there ↦ key_below-trans key k x lower (r.0 x there)
      ],
      r,
    ))
    (λ same. r)
    (λ higher. (
      λ x h. elim (has_only key keys x h) [
        | inl own ↦ subst (λ (y : Key). key_below k y ≡ true) (sym own) higher
        | inr old ↦ r.0 x old
      ],
      put_rising key keys r.1,
    ))

pub all_rising : (others keys : List Key) → AreRising others → AreRising (put_all_in_order others keys)
all_rising others [] r = r
all_rising others (k ∷ keys) r = all_rising (put_in_order k others) keys (put_rising k others r)

pub in_order_rising : (keys : List Key) → AreRising (sorted_keys keys)
in_order_rising keys = all_rising [] keys tt

has_others : (others keys : List Key) (x : Key) → has_key others x ≡ true → has_key (put_all_in_order others keys) x ≡ true
has_others others [] x h = h
has_others others (k ∷ keys) x h = has_others (put_in_order k others) keys x (has_kept k others x h)

has_all : (others keys : List Key) (x : Key) → has_key keys x ≡ true → has_key (put_all_in_order others keys) x ≡ true
has_all others [] x h = absurd cc
has_all others (k ∷ keys) x h =
    elim (or_cases (key_eq x k) (has_key keys x) h) [
      | inl first ↦
          has_others (put_in_order k others) keys x
          (subst (λ (y : Key). has_key (put_in_order k others) y ≡ true) (sym (same_key x k first)) (has_put k others))
      | inr there ↦ has_all (put_in_order k others) keys x there
    ]

pub has_in_order : (keys : List Key) (x : Key) → has_key keys x ≡ true → has_key (sorted_keys keys) x ≡ true
has_in_order keys x h = has_all [] keys x h

pub put_all-append : (others xs ys : List Key) → put_all_in_order others (xs ++ ys) ≡ put_all_in_order (put_all_in_order others xs) ys
put_all-append others [] ys = refl
put_all-append others (x ∷ xs) ys = put_all-append (put_in_order x others) xs ys
