-- A list that enough of few logs begin with is what the merged log begins with.
use Rattle.std.proofs.Common.{◌≡◌, ℕ, ◌+◌, ◌<◌, ◌≤◌, Bool, true, false, ◌&&◌, cond, List, [], ◌∷◌, ◌++◌}
use Rattle.std.proofs.Common.{length, refl, sym, ap, subst, ◌∙◌, inl, inr, ◌⊎◌, append_assoc, arith}
use Rattle.std.specs.Prelude.{map}
use Rattle.std.specs.List.{filter, flat_map, AllByRecursion}
use Rattle.std.proofs.lemmas.Bool.{le-leb, leb-true, cases_Bool, and_from, and_parts}
use Rattle.std.proofs.lemmas.List.{map-append}
use Rattle.nz_base.specs.declared.key.Key.{Key}
use Rattle.nz_base.specs.declared.key.Entry.{Entry}
use Rattle.nz_base.specs.Key.{key_eq}
use Rattle.nz_base.specs.Log.{keys_of, has_key, AreRising, HaveOwnIds}
use Rattle.nz_base.proofs.Names.{key_eq_self}
use Rattle.nz_base.proofs.Logs.{has_append, has_in_prefix, has_back, prefix_below, rising_prefix, own_in_prefix}
use Rattle.nz_merge.specs.Merged.{begins_with, IsFit, merged_synced_part, holders, all_keys, later_keys, entry_in, merged_from, count_beginning}
use Rattle.nz_merge.specs.declared.report.Report.{Report}
use Rattle.nz_merge.proofs.Beginnings.{begins_append, rest_of, AreAmong}
use Rattle.nz_merge.proofs.Ordering.{in_order_rising, has_in_order}
use Rattle.nz_merge.proofs.Walk.{IsSettled, walk}

-- ---- counting reports

-- two tests that are passed by more than there are have one in common
pub both_pass : {X : Type 0} (p q : X → Bool) (xs : List X) → length (filter p xs) + length (filter q xs) ≤ length xs + length (filter (λ x. p x && q x) xs)
both_pass p q [] = omega arith
both_pass p q (x ∷ xs) = by_tests (p x) (q x) x xs (filter p xs) (filter q xs) (filter (λ y. p y && q y) xs) (both_pass p q xs)
  where
    by_tests : {X : Type 0} (a b : Bool) (x : X) (xs ps qs bs : List X) → length ps + length qs ≤ length xs + length bs
        → length (cond a (x ∷ ps) ps) + length (cond b (x ∷ qs) qs) ≤ length (x ∷ xs) + length (cond (a && b) (x ∷ bs) bs)
    by_tests true true x xs ps qs bs h = omega (arith, h)
    by_tests true false x xs ps qs bs h = omega (arith, h)
    by_tests false true x xs ps qs bs h = omega (arith, h)
    by_tests false false x xs ps qs bs h = omega (arith, h)

-- some item passes
pub some_pass : {X : Type 0} (Q : X → Type 0) (p : X → Bool) (xs : List X) → AllByRecursion Q xs → 0 < length (filter p xs) → (x : X) × Q x × (p x ≡ true)
some_pass Q p [] each h = absurd (omega arith)
some_pass Q p (x ∷ xs) each h =
    elim (cases_Bool (p x)) [
      | inl here ↦ (x, each.0, here)
      | inr away ↦ some_pass Q p xs each.1 (rw away at h)
    ]

-- a weaker test is passed by as many
pub more_pass : {X : Type 0} (p q : X → Bool) (xs : List X) → ((x : X) → p x ≡ true → q x ≡ true) → length (filter p xs) ≤ length (filter q xs)
more_pass p q [] h = omega arith
more_pass p q (x ∷ xs) h = by_tests (p x) (q x) x (filter p xs) (filter q xs) (h x) (more_pass p q xs h)
  where
    by_tests : {X : Type 0} (a b : Bool) (x : X) (ps qs : List X) → (a ≡ true → b ≡ true) → length ps ≤ length qs
        → length (cond a (x ∷ ps) ps) ≤ length (cond b (x ∷ qs) qs)
    by_tests true true x ps qs k h = omega (arith, h)
    by_tests true false x ps qs k h = absurd (let e = k refl in cc)
    by_tests false true x ps qs k h = omega (arith, h)
    by_tests false false x ps qs k h = h

-- ---- keys of logs

-- a key of a log that passes a test is among all keys
pub among_all : (p : Report → Bool) (reports : List Report) (k : Key)
    → ((c : Report) → p c ≡ true → has_key (keys_of c.log) k ≡ true) → 0 < length (filter p reports)
    → has_key (flat_map (λ c. keys_of c.log) reports) k ≡ true
among_all p [] k h some = absurd (omega arith)
among_all p (c ∷ reports) k h some =
    elim (cases_Bool (p c)) [
      | inl here ↦ has_in_prefix (keys_of c.log) (flat_map (λ d. keys_of d.log) reports) k (h c here)
      | inr away ↦ has_back (keys_of c.log) (flat_map (λ d. keys_of d.log) reports) k (among_all p reports k h (rw away at some))
    ]

-- a key of a prefix is a key of what begins with it
pub has_of_prefix : (keys prefix : List Key) (k : Key) → begins_with keys prefix ≡ true → has_key prefix k ≡ true → has_key keys k ≡ true
has_of_prefix keys prefix k begins h =
    let rest = rest_of keys prefix begins in
    subst (λ (xs : List Key). has_key xs k ≡ true) (sym rest.1) (has_in_prefix prefix rest.0 k h)

-- ---- a prefix that enough logs have

-- A list that enough logs begin with is settled.
pub settled : (limit : ℕ) (reports : List Report) (P : List Key) → AllByRecursion IsFit reports → 0 < limit
    → length reports < limit + limit → limit ≤ count_beginning P reports → IsSettled limit reports P
settled limit reports P fit positive few enough =
    let begins : Report → Bool = λ c. begins_with (keys_of c.log) P in
    let one = some_pass IsFit begins reports fit (omega (arith, enough)) in
    let rest = rest_of (keys_of one.0.log) P one.2 in
    record {
      rising = rising_prefix P rest.0 (subst AreRising rest.1 one.1.log.rising);
      own_ids = own_in_prefix P rest.0 (subst HaveOwnIds rest.1 one.1.log.own_ids);
      held = λ k h.
          let more = more_pass begins (λ c. has_key (keys_of c.log) k) reports (λ c b. has_of_prefix (keys_of c.log) P k b h) in
          le-leb limit (length (holders reports k)) (omega (arith, enough, more));
      closed = λ k h.
          let held_by = leb-true limit (length (holders reports k)) h in
          let common = both_pass begins (λ c. has_key (keys_of c.log) k) reports in
          let both = some_pass IsFit (λ c. begins c && has_key (keys_of c.log) k) reports fit (omega (arith, enough, held_by, common)) in
          let tail = rest_of (keys_of both.0.log) P (and_parts (begins both.0) (has_key (keys_of both.0.log) k) both.2).0 in
          elim (has_append P tail.0 k (subst (λ (xs : List Key). has_key xs k ≡ true) tail.1
          (and_parts (begins both.0) (has_key (keys_of both.0.log) k) both.2).1)) [
            | inl inside ↦ inl inside
            | inr after ↦ inr (λ x there. prefix_below P tail.0 x k (subst AreRising tail.1 both.1.log.rising) there after)
          ];
    }

keys_entries : (reports : List Report) (keys : List Key) → keys_of (map (entry_in reports) keys) ≡ keys
keys_entries reports [] = refl
keys_entries reports (k ∷ keys) = ap (λ (xs : List Key). k ∷ xs) (keys_entries reports keys)

-- the keys of the merged log
pub merged_keys : (limit : ℕ) (reports : List Report)
    → keys_of (merged_from limit reports)
    ≡ keys_of (merged_synced_part reports) ++ later_keys limit reports (keys_of (merged_synced_part reports)) (all_keys reports)
merged_keys limit reports =
    let base = merged_synced_part reports in
    let added = later_keys limit reports (keys_of base) (all_keys reports) in
    map-append (λ (e : Entry). e.key) base (map (entry_in reports) added) ∙ ap (λ (xs : List Key). keys_of base ++ xs) (keys_entries reports added)

pub begins_longer : (xs ys prefix : List Key) → begins_with xs prefix ≡ true → begins_with (xs ++ ys) prefix ≡ true
begins_longer xs ys prefix h =
    let rest = rest_of xs prefix h in
    subst (λ (zs : List Key). begins_with zs prefix ≡ true)
    (sym (ap (λ (zs : List Key). zs ++ ys) rest.1 ∙ append_assoc prefix rest.0 ys)) (begins_append prefix (rest.0 ++ ys))

begins_further : (prefix xs rest : List Key) → begins_with xs rest ≡ true → begins_with (prefix ++ xs) (prefix ++ rest) ≡ true
begins_further [] xs rest h = h
begins_further (f ∷ prefix) xs rest h = and_from (key_eq f f) (begins_with (prefix ++ xs) (prefix ++ rest)) (key_eq_self f) (begins_further prefix xs rest h)

pub begins_with_prefix : (limit : ℕ) (reports : List Report) (P : List Key) → AllByRecursion IsFit reports → 0 < limit
    → length reports < limit + limit → limit ≤ count_beginning P reports
    → (begins_with (keys_of (merged_synced_part reports)) P ≡ true) ⊎ (begins_with P (keys_of (merged_synced_part reports)) ≡ true)
    → begins_with (keys_of (merged_from limit reports)) P ≡ true
begins_with_prefix limit reports P fit positive few enough either =
    let base = keys_of (merged_synced_part reports) in
    let added = later_keys limit reports base (all_keys reports) in
    let s = settled limit reports P fit positive few enough in
    let whole : begins_with (base ++ added) P ≡ true = elim either [
      | inl shorter ↦ begins_longer base added P shorter
      | inr longer ↦
          let rest = rest_of P base longer in
          let among : AreAmong rest.0 (all_keys reports) = λ k h. has_in_order (flat_map (λ c. keys_of c.log) reports) k
          (among_all (λ c. begins_with (keys_of c.log) P) reports k
          (λ c b. has_of_prefix (keys_of c.log) P k b
          (subst (λ (xs : List Key). has_key xs k ≡ true) (sym rest.1) (has_back base rest.0 k h))) (omega (arith, enough))) in
          let walked = walk limit reports P base rest.0 (all_keys reports) s rest.1 (in_order_rising (flat_map (λ c. keys_of c.log) reports)) among in
          subst (λ (xs : List Key). begins_with (base ++ added) xs ≡ true) (sym rest.1) (begins_further base added rest.0 walked)
    ] in
    subst (λ (xs : List Key). begins_with xs P ≡ true) (sym (merged_keys limit reports)) whole
