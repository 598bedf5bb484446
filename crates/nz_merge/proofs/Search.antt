-- A binary search among rising keys.
use Rattle.std.proofs.Common.{◌≡◌, ℕ, zero, suc, ◌<◌, ◌≤◌, true, false, List, [], ◌∷◌, length, get_or}
use Rattle.std.proofs.Common.{Some, Result, Ok, Err, refl, sym, ap, subst, ◌∙◌, inl, inr, arith}
use Rattle.std.specs.Prelude.{slice_get, is_some, IfSome, IfNone}
use Rattle.std.specs.Result.{result_ok}
use Rattle.std.specs.Ordering.{is_lt, ordering_index}
use Rattle.std.specs.declared.cmp.Ordering.{Ordering}
use Rattle.std.specs.declared.cmp.Ordering.TheVariants.{Less, Equal, Greater}
use Rattle.std.specs.List.Sorted.{IsBinarySearchResult, IsSearchInRange, IsNonDecreasingBy}
use Rattle.std.proofs.lemmas.Bool.{cases_lt, cases_eq, cases_Bool, or_left, or_right}
use Rattle.std.proofs.lemmas.Bool.Decides.{nat_tests}
use Rattle.nz_base.specs.declared.key.Key.{Key}
use Rattle.nz_base.specs.declared.key.Entry.{Entry}
use Rattle.nz_base.specs.Key.{key_cmp, key_below, key_eq}
use Rattle.nz_base.specs.Log.{keys_of, has_key, AreRising}
use Rattle.nz_base.proofs.Keys.{key_below-self, key_below-trans}
use Rattle.nz_base.proofs.Names.{key_eq_self, same_key}
use Rattle.nz_base.proofs.Booleans.{true_and_false}
use Rattle.nz_base.proofs.Logs.{has_first}
use Rattle.nz_merge.specs.Merged.{command_of_key}

pub cmp_less : (a b : Key) → key_below a b ≡ true → key_cmp a b ≡ Less
cmp_less a b h = is_less (key_cmp a b) h
  where
    is_less : (o : Ordering) → is_lt o ≡ true → o ≡ Less
    is_less Less h = refl
    is_less Equal h = absurd cc
    is_less Greater h = absurd cc

pub cmp_equal : (a b : Key) → key_cmp a b ≡ Equal → a ≡ b
cmp_equal a b h = grind (arith, nat_tests)

pub cmp_self : (a : Key) → key_cmp a a ≡ Equal
cmp_self a = grind (arith, nat_tests)

has_at : (log : List Entry) (i : ℕ) (d : Entry) → i < length log → has_key (keys_of log) (get_or log i d).key ≡ true
has_at [] i d h = absurd (omega arith)
has_at (e ∷ log) zero d h = has_first e.key (keys_of log)
has_at (e ∷ log) (suc i) d h = or_right (key_eq (get_or log i d).key e.key) (has_key (keys_of log) (get_or log i d).key) (has_at log i d (omega arith))

pub rising_at : (log : List Entry) (i j : ℕ) (d : Entry) → AreRising (keys_of log) → i < j → j < length log
    → key_below (get_or log i d).key (get_or log j d).key ≡ true
rising_at [] i j d r lt h = absurd (omega arith)
rising_at (e ∷ log) i zero d r lt h = absurd (omega arith)
rising_at (e ∷ log) zero (suc j) d r lt h = r.0 (get_or log j d).key (has_at log j d (omega arith))
rising_at (e ∷ log) (suc i) (suc j) d r lt h = rising_at log i j d r.1 (omega arith) (omega arith)

-- where a key is
pub place_has : (log : List Entry) (key : Key) (d : Entry) → has_key (keys_of log) key ≡ true → (i : ℕ) × (i < length log) × ((get_or log i d).key ≡ key)
place_has [] key d h = absurd cc
place_has (e ∷ log) key d h =
    elim (cases_Bool (key_eq key e.key)) [
      | inl same ↦ (0, omega arith, sym (same_key key e.key same))
      | inr other ↦ let found = place_has log key d (rw other at h) in (suc found.0, omega (arith, found.1), found.2)
    ]

below_index : (a b key : Key) → key_below a b ≡ true → ordering_index (key_cmp a key) ≤ ordering_index (key_cmp b key)
below_index a b key below = by_answer (key_cmp b key) refl
  where
    top : (o : Ordering) → ordering_index o ≤ 2
    top Less = omega arith
    top Equal = omega arith
    top Greater = omega arith

    least : (x : Key) (n : ℕ) → key_below x key ≡ true → ordering_index (key_cmp x key) ≤ n
    least x n h = rw (cmp_less x key h) (omega arith)

    by_answer : (o : Ordering) → key_cmp b key ≡ o → ordering_index (key_cmp a key) ≤ ordering_index o
    by_answer Less e = least a 0 (key_below-trans a b key below (ap is_lt e))
    by_answer Equal e = least a 1 (subst (λ (k : Key). key_below a k ≡ true) (cmp_equal b key e) below)
    by_answer Greater e = top (key_cmp a key)

pub never_falls : (log : List Entry) (key : Key) → AreRising (keys_of log) → IsNonDecreasingBy (λ e. ordering_index (key_cmp e.key key)) log
never_falls log key r i j d le lt =
    elim (cases_eq i j) [
      | inl same ↦ rw same (omega arith)
      | inr other ↦ below_index (get_or log i d).key (get_or log j d).key key (rising_at log i j d r (omega arith) lt)
    ]

pub search_found : (log : List Entry) (key : Key) (r : Result ℕ ℕ) → IsSearchInRange r (length log) → IsBinarySearchResult (λ e. key_cmp e.key key) log r
    → IfSome (result_ok r) (λ p. (p < length log) × (slice_get (keys_of log) p ≡ Some key))
search_found log key (Err i) range h = tt
search_found log key (Ok i) range h = (range, at_place log i range h)
  where
    at_place : (xs : List Entry) (k : ℕ) → k < length xs → ((d : Entry) → key_cmp (get_or xs k d).key key ≡ Equal) → slice_get (keys_of xs) k ≡ Some key
    at_place [] k lt h = absurd (omega arith)
    at_place (e ∷ xs) zero lt h = ap (λ (x : Key). Some x) (cmp_equal e.key key (h e))
    at_place (e ∷ xs) (suc k) lt h = at_place xs k (omega arith) h

pub search_none : (log : List Entry) (key : Key) (r : Result ℕ ℕ) → IsBinarySearchResult (λ e. key_cmp e.key key) log r
    → IfNone (result_ok r) (AreRising (keys_of log) → has_key (keys_of log) key ≡ false)
search_none log key (Ok i) h = tt
search_none log key (Err i) h = λ rising. elim (cases_Bool (has_key (keys_of log) key)) [
  | inr away ↦ away
  | inl there ↦
      let d : Entry = record { key = key; command = [] } in
      let found = place_has log key d there in
      let split = h (never_falls log key rising) in
      let equal : key_cmp (get_or log found.0 d).key key ≡ Equal = subst (λ (k : Key). key_cmp k key ≡ Equal) (sym found.2) (cmp_self key) in
      elim (cases_lt found.0 i) [
        | inl lower ↦ absurd (let e : Less ≡ Equal = sym (split.0 found.0 d (omega arith) lower) ∙ equal in cc)
        | inr higher ↦ absurd (let e : Greater ≡ Equal = sym (split.1 found.0 d higher found.1) ∙ equal in cc)
      ]
]

has_slice : (log : List Entry) (p : ℕ) (key : Key) → slice_get (keys_of log) p ≡ Some key → has_key (keys_of log) key ≡ true
has_slice [] p key h = absurd cc
has_slice (e ∷ log) zero key h = let same : e.key ≡ key = cc in subst (λ (k : Key). has_key (keys_of (e ∷ log)) k ≡ true) same (has_first e.key (keys_of log))
has_slice (e ∷ log) (suc p) key h = or_right (key_eq key e.key) (has_key (keys_of log) key) (has_slice log p key h)

-- a search shows whether the key is there
pub search_shows : (log : List Entry) (key : Key) (r : Result ℕ ℕ) → IsSearchInRange r (length log)
    → IsBinarySearchResult (λ e. key_cmp e.key key) log r → AreRising (keys_of log)
    → is_some (result_ok r) ≡ has_key (keys_of log) key
search_shows log key (Ok i) range h rising = let found = search_found log key (Ok i) range h in sym (has_slice log i key found.1)
search_shows log key (Err i) range h rising = let none = search_none log key (Err i) h rising in sym none

-- ---- commands

pub command_none : (log : List Entry) (key : Key) → has_key (keys_of log) key ≡ false → command_of_key key log ≡ []
command_none [] key h = refl
command_none (e ∷ log) key h =
    elim (cases_Bool (key_eq key e.key)) [
      | inl same ↦ true_and_false (has_key (keys_of (e ∷ log)) key) (or_left (key_eq key e.key) (has_key (keys_of log) key) same) h
      | inr other ↦ rw other (command_none log key (rw other at h))
    ]

pub command_found : (log : List Entry) (p : ℕ) (key : Key) (d : Entry) → AreRising (keys_of log) → p < length log
    → slice_get (keys_of log) p ≡ Some key → command_of_key key log ≡ (get_or log p d).command
command_found [] p key d r lt h = absurd (omega arith)
command_found (e ∷ log) zero key d r lt h =
    let same : e.key ≡ key = cc in
    let equal : key_eq key e.key ≡ true = subst (λ (k : Key). key_eq k e.key ≡ true) same (key_eq_self e.key) in
    rw equal refl
command_found (e ∷ log) (suc p) key d r lt h =
    let there = has_slice log p key h in
    let other : key_eq key e.key ≡ false = elim (cases_Bool (key_eq key e.key)) [
      | inr away ↦ away
      | inl equal ↦
          let below : key_below e.key e.key ≡ true = r.0 e.key (subst (λ (k : Key). has_key (keys_of log) k ≡ true) (same_key key e.key equal) there) in
          true_and_false (key_below e.key e.key) below (key_below-self e.key)
    ] in
    rw other (command_found log p key d r.1 (omega arith) h)
