-- Which keys the merged log has, and where its entries come from.
use Rattle.std.proofs.Common.{◌≡◌, ℕ, zero, suc, ◌<◌, ◌≤◌, Bool, true, false, ◌&&◌, not, eqb, List, [], ◌∷◌, ◌++◌}
use Rattle.std.proofs.Common.{length, leb, Option, Some, None, refl, sym, subst, inl, inr, append_assoc, arith}
use Rattle.std.specs.Prelude.{map, take}
use Rattle.std.specs.List.{filter, flat_map, AllByRecursion}
use Rattle.std.proofs.lemmas.Bool.{le-leb, leb-true, cases_Bool, or_cases, or_left, or_right, and_from, and_parts}
use Rattle.nz_base.specs.declared.key.Key.{Key}
use Rattle.nz_base.specs.declared.key.Id.{Id}
use Rattle.nz_base.specs.declared.key.Entry.{Entry}
use Rattle.nz_base.specs.Key.{key_below, key_eq, id_eq, id_of}
use Rattle.nz_base.specs.Log.{keys_of, has_key, has_id, AreRising, is_above_last}
use Rattle.nz_base.proofs.Names.{same_key}
use Rattle.nz_base.proofs.Booleans.{true_and_false}
use Rattle.nz_base.proofs.Logs.{has_first, has_append, has_in_prefix, has_back, above_each, above_last}
use Rattle.nz_base.proofs.Keys.{never_self}
use Rattle.nz_merge.specs.Merged.{IsFit, greatest, lowest, synced_entries, merged_synced_part, holders, all_keys}
use Rattle.nz_merge.specs.Merged.{is_taken, later_keys, command_of_key, command_of_report, entry_in, merged_from}
use Rattle.nz_merge.specs.declared.report.Report.{Report}
use Rattle.nz_merge.proofs.Ordering.{in_order_rising, has_in_order}
use Rattle.nz_merge.proofs.CommonPrefixes.{among_all, merged_keys}
use Rattle.nz_merge.proofs.Logs.{base_log, lowest_has, all_filter}

-- ---- a key that enough logs hold

-- a key with the id, in a list that has the id
with_id : (keys : List Key) (i : Id) → has_id keys i ≡ true → (k : Key) × (has_key keys k ≡ true) × (id_eq i (id_of k) ≡ true)
with_id [] i h = absurd cc
with_id (k ∷ keys) i h =
    elim (cases_Bool (id_eq i (id_of k))) [
      | inl here ↦ (k, has_first k keys, here)
      | inr away ↦ let found = with_id keys i (rw away at h) in (found.0, or_right (key_eq found.0 k) (has_key keys found.0) found.1, found.2)
    ]

-- it is taken, where no other key with its id is
pub takes_held : (limit : ℕ) (reports : List Report) (taken candidates : List Key) (k : Key) → AreRising candidates → has_key candidates k ≡ true
    → leb limit (length (holders reports k)) ≡ true
    → ((x : Key) → has_key taken x ≡ true → key_below x k ≡ true)
    → ((x : Key) → has_key (taken ++ later_keys limit reports taken candidates) x ≡ true → id_eq (id_of k) (id_of x) ≡ true → x ≡ k)
    → has_key (later_keys limit reports taken candidates) k ≡ true
unfolding later_keys
takes_held limit reports taken [] k r there enough below only = absurd cc
takes_held limit reports taken (c ∷ candidates) k r there enough below only =
    elim (cases_Bool (key_eq k c)) [
      | inl equal ↦
          let same : k ≡ c = same_key k c equal in
          let above : is_above_last taken k ≡ true = above_last taken k below in
          let fresh : has_id taken (id_of k) ≡ false = elim (cases_Bool (has_id taken (id_of k))) [
            | inr away ↦ away
            | inl known ↦
                let found = with_id taken (id_of k) known in
                let itself : found.0 ≡ k = only found.0 (has_in_prefix taken (later_keys limit reports taken (c ∷ candidates)) found.0 found.1) found.2 in
                never_self k (subst (λ (x : Key). key_below x k ≡ true) itself (below found.0 found.1))
          ] in
          let joins : is_taken limit reports taken k ≡ true =
          and_from (leb limit (length (holders reports k)))
          (is_above_last taken k && not (has_id taken (id_of k))) enough
          (and_from (is_above_last taken k) (not (has_id taken (id_of k))) above (rw fresh refl)) in
          let joins_c : is_taken limit reports taken c ≡ true = subst (λ (x : Key). is_taken limit reports taken x ≡ true) same joins in
          rw joins_c (or_left (key_eq k c) (has_key (later_keys limit reports (taken ++ c ∷ []) candidates) k) equal)
      | inr other ↦
          let after : has_key candidates k ≡ true = elim (or_cases (key_eq k c) (has_key candidates k) there) [
            | inl equal ↦ true_and_false (key_eq k c) equal other
            | inr rest ↦ rest
          ] in
          let before : key_below c k ≡ true = r.0 k after in
          elim (cases_Bool (is_taken limit reports taken c)) [
            | inr skipped ↦ rw skipped (takes_held limit reports taken candidates k r.1 after enough below (rw skipped at only))
            | inl joins ↦
                let more : (x : Key) → has_key (taken ++ c ∷ []) x ≡ true → key_below x k ≡ true = λ x h. elim (has_append taken (c ∷ []) x h) [
                  | inl early ↦ below x early
                  | inr late ↦ elim (or_cases (key_eq x c) false late) [
                    | inl same ↦ subst (λ (y : Key). key_below y k ≡ true) (sym (same_key x c same)) before
                    | inr none ↦ absurd cc
                  ]
                ] in
                let rest = later_keys limit reports (taken ++ c ∷ []) candidates in
                let only_then : (x : Key) → has_key (taken ++ c ∷ rest) x ≡ true → id_eq (id_of k) (id_of x) ≡ true → x ≡ k = rw joins at only in
                let found =
                takes_held limit reports (taken ++ c ∷ []) candidates k r.1 after enough more
                (λ x h i. only_then x (subst (λ (xs : List Key). has_key xs x ≡ true) (append_assoc taken (c ∷ []) rest) h) i) in
                rw joins (or_right (key_eq k c) (has_key rest k) found)
          ]
    ]

pub merged_has : (limit : ℕ) (reports : List Report) (k : Key) → AllByRecursion IsFit reports → 0 < limit
    → limit ≤ length (holders reports k) → is_above_last (keys_of (merged_synced_part reports)) k ≡ true
    → ((x : Key) → has_key (keys_of (merged_from limit reports)) x ≡ true → id_eq (id_of k) (id_of x) ≡ true → x ≡ k)
    → has_key (keys_of (merged_from limit reports)) k ≡ true
merged_has limit reports k fit positive enough above only =
    let base = keys_of (merged_synced_part reports) in
    let candidates = all_keys reports in
    let same = merged_keys limit reports in
    let rising = base_log reports fit in
    let there : has_key candidates k ≡ true =
    has_in_order (flat_map (λ c. keys_of c.log) reports) k
    (among_all (λ c. has_key (keys_of c.log) k) reports k (λ c h. h) (omega (arith, enough))) in
    let found =
    takes_held limit reports base candidates k (in_order_rising (flat_map (λ c. keys_of c.log) reports)) there
    (le-leb limit (length (holders reports k)) enough) (λ x h. above_each base k x rising.0 above h)
    (λ x h i. only x (subst (λ (xs : List Key). has_key xs x ≡ true) (sym same) h) i) in
    subst (λ (xs : List Key). has_key xs k ≡ true) (sym same) (has_back base (later_keys limit reports base candidates) k found)

-- ---- where the entries come from

-- what each entry of each log has, each entry of the merged log has
abbrev pub EachEntry : (Entry → Type 0) → List Report → Type 0
EachEntry Q reports = AllByRecursion (λ c. AllByRecursion Q c.log) reports

all_append : (Q : Entry → Type 0) (xs ys : List Entry) → AllByRecursion Q xs → AllByRecursion Q ys → AllByRecursion Q (xs ++ ys)
all_append Q [] ys hx hy = hy
all_append Q (x ∷ xs) ys hx hy = (hx.0, all_append Q xs ys hx.1 hy)

all_take : (Q : Entry → Type 0) (n : ℕ) (xs : List Entry) → AllByRecursion Q xs → AllByRecursion Q (take n xs)
all_take Q zero xs h = tt
all_take Q (suc n) [] h = tt
all_take Q (suc n) (x ∷ xs) h = (h.0, all_take Q n xs h.1)

base_entries : (Q : Entry → Type 0) (o : Option Report) → ((c : Report) → o ≡ Some c → AllByRecursion Q c.log) → AllByRecursion Q (synced_entries o)
base_entries Q None h = tt
base_entries Q (Some c) h = all_take Q c.synced c.log (h c refl)

-- the entry of a key that a log has
entry_at : (Q : Entry → Type 0) (key : Key) (log : List Entry) → AllByRecursion Q log
    → has_key (keys_of log) key ≡ true → Q (record { key = key; command = command_of_key key log })
entry_at Q key [] each h = absurd cc
entry_at Q key (e ∷ log) each h =
    elim (cases_Bool (key_eq key e.key)) [
      | inl same ↦ rw same (subst (λ (k : Key). Q (record { key = k; command = e.command })) (sym (same_key key e.key same)) each.0)
      | inr other ↦ rw other (entry_at Q key log each.1 (rw other at h))
    ]

-- a holder is one of the reports, and holds the key
pub record IsHolder (Q : Entry → Type 0) (key : Key) (c : Report) : Type 0 where
  pub each : AllByRecursion Q c.log
  pub holds : has_key (keys_of c.log) key ≡ true

are_holders : (Q : Entry → Type 0) (key : Key) (reports : List Report) → EachEntry Q reports → AllByRecursion (IsHolder Q key) (holders reports key)
are_holders Q key [] each = tt
are_holders Q key (c ∷ reports) each =
    elim (cases_Bool (has_key (keys_of c.log) key)) [
      | inl here ↦ rw here (record { each = each.0; holds = here }, are_holders Q key reports each.1)
      | inr away ↦ rw away (are_holders Q key reports each.1)
    ]

by_holder : (Q : Entry → Type 0) (key : Key) (found : List Report) → AllByRecursion (IsHolder Q key) found
    → 0 < length found → Q (record { key = key; command = command_of_report key (lowest found) })
by_holder Q key [] each some = absurd (omega arith)
by_holder Q key (c ∷ found) each some =
    let first = lowest_has (IsHolder Q key) (c ∷ found) _ each refl in
    entry_at Q key _ first.each first.holds

later_entries : (Q : Entry → Type 0) (limit : ℕ) (reports : List Report) (taken candidates : List Key)
    → EachEntry Q reports → 0 < limit → AllByRecursion Q (map (entry_in reports) (later_keys limit reports taken candidates))
unfolding later_keys
later_entries Q limit reports taken [] each positive = tt
later_entries Q limit reports taken (k ∷ candidates) each positive =
    elim (cases_Bool (is_taken limit reports taken k)) [
      | inr skipped ↦ rw skipped (later_entries Q limit reports taken candidates each positive)
      | inl joins ↦
          let enough =
          leb-true limit (length (holders reports k))
          (and_parts (leb limit (length (holders reports k))) (is_above_last taken k && not (has_id taken (id_of k))) joins).0 in
          rw joins (
            by_holder Q k (holders reports k) (are_holders Q k reports each) (omega (arith, enough)),
            later_entries Q limit reports (taken ++ k ∷ []) candidates each positive,
          )
    ]

pub merged_entries : (Q : Entry → Type 0) (limit : ℕ) (reports : List Report) → EachEntry Q reports → 0 < limit → AllByRecursion Q (merged_from limit reports)
merged_entries Q limit reports each positive =
    let best : Report → Bool = λ c. eqb c.synced (greatest (map (λ d. d.synced) reports)) in
    all_append Q (merged_synced_part reports) (map (entry_in reports) (later_keys limit reports (keys_of (merged_synced_part reports)) (all_keys reports)))
    (base_entries Q (lowest (filter best reports))
    (λ c h. lowest_has (λ d. AllByRecursion Q d.log) (filter best reports) c (all_filter (λ d. AllByRecursion Q d.log) best reports each) h))
    (later_entries Q limit reports (keys_of (merged_synced_part reports)) (all_keys reports) each positive)
