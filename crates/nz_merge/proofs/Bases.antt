-- The merged log in prefixes: the synced part that it begins with, and the keys of a fast quorum that stay.
use Rattle.std.proofs.Common.{◌≡◌, ℕ, zero, suc, ◌<◌, ◌≤◌, Bool, true, false, cond, eqb, List, []}
use Rattle.std.proofs.Common.{◌∷◌, length, take, refl, sym, ap, subst, ◌∙◌, arith, inl, inr, ◌⊎◌}
use Rattle.std.specs.Prelude.{map}
use Rattle.std.specs.List.{filter, Contains}
use Rattle.std.proofs.lemmas.Bool.{cases_lt, eq-eqb, eqb-true}
use Rattle.std.proofs.lemmas.List.{take-map}
use Rattle.std.proofs.lemmas.List.Elements.{All-contains, All-contains_itself, All-filter, filter_passes, recursion_from_All}
use Rattle.nz_base.specs.declared.key.Key.{Key}
use Rattle.nz_base.specs.declared.key.Entry.{Entry}
use Rattle.nz_base.specs.Log.{keys_of}
use Rattle.nz_base.specs.Prefixes.{IsPrefix, Comparable}
use Rattle.nz_math.specs.Count.{is_in, IsChoice}
use Rattle.nz_math.specs.Quorum.{group_size, slow_quorum, fast_quorum}
use Rattle.nz_merge.specs.declared.report.Report.{Report}
use Rattle.nz_merge.specs.Merged.{AreFit, greatest, latest_reports, lower, lowest, with_synced, synced_entries}
use Rattle.nz_merge.specs.Merged.{merged_synced_part, threshold, merged, begins_with, count_beginning}
use Rattle.nz_merge.specs.Sender.{senders}
use Rattle.nz_merge.proofs.Beginnings.{test_of_prefix, prefix_of_test}
use Rattle.nz_merge.proofs.Logs.{lowest_has}
use Rattle.nz_merge.proofs.Merging.{prefix_stays, synced_prefix}
use Rattle.nz_merge.proofs.Senders.{contains_first, contains_later, pass_twice, fast_members}

-- ---- filters, and the greatest

-- what a filter keeps is in the list, and passes
of_filter : {X : Type 0} (p : X → Bool) (xs : List X) (x : X) → Contains (filter p xs) x → Contains xs x × (p x ≡ true)
of_filter p xs x h = (
  All-contains (Contains xs) (filter p xs) x (All-filter p (Contains xs) xs (All-contains_itself xs)) h,
  All-contains (λ y. p y ≡ true) (filter p xs) x (filter_passes p xs) h,
)

in_filter : {X : Type 0} (p : X → Bool) (xs : List X) (x : X) → Contains xs x → p x ≡ true → Contains (filter p xs) x
in_filter p [] x (k, lt, e) yes_p = absurd (omega (arith, lt))
in_filter p (y ∷ xs) x (zero, lt, e) yes_p = let here : p y ≡ true = ap p e ∙ yes_p in rw here (zero, omega arith, e)
in_filter {X} p (y ∷ xs) x (suc k, lt, e) yes_p = by_test (p y) (in_filter p xs x (k, omega (arith, lt), e) yes_p)
  where
    by_test : (b : Bool) → Contains (filter p xs) x → Contains (cond b (y ∷ filter p xs) (filter p xs)) x
    by_test true h = contains_later y (filter p xs) x h
    by_test false h = h

pub within_greatest : {X : Type 0} (g : X → ℕ) (xs : List X) (x : X) → Contains xs x → g x ≤ greatest (map g xs)
within_greatest g [] x (k, lt, e) = absurd (omega (arith, lt))
within_greatest g (y ∷ xs) x (zero, lt, e) = let same = ap g e in omega (arith, same)
within_greatest g (y ∷ xs) x (suc k, lt, e) = let rest = within_greatest g xs x (k, omega (arith, lt), e) in omega (arith, rest)

pub is_greatest : {X : Type 0} (g : X → ℕ) (x : X) (xs : List X) → (y : X) × Contains (x ∷ xs) y × (g y ≡ greatest (map g (x ∷ xs)))
is_greatest g x [] = (x, contains_first x [], omega arith)
is_greatest g x (y ∷ xs) =
    let rest = is_greatest g y xs in
    let same = rest.2 in
    elim (cases_lt (greatest (map g (y ∷ xs))) (g x)) [
      | inl lt ↦ (x, contains_first x (y ∷ xs), omega (arith, lt))
      | inr le ↦ (rest.0, contains_later x (y ∷ xs) rest.0 rest.1, omega (arith, le, same))
    ]

-- ---- the base

-- the greatest last view of the reports
abbrev pub last_of : List Report → ℕ
last_of reports = greatest (map (λ c. c.last) reports)

-- the synced part that the merge takes: that of a report of the greatest last view, and none of these has more synced
pub record IsBase (reports : List Report) : Type 0 where
  pub c : Report
  pub among : Contains reports c
  pub last : c.last ≡ last_of reports
  pub most : (d : Report) → Contains reports d → d.last ≡ last_of reports → d.synced ≤ c.synced
  pub is : keys_of (merged_synced_part (latest_reports reports)) ≡ take c.synced (keys_of c.log)

-- a kept report is one of the reports, of the greatest last view, and each of these is kept
of_kept : (reports : List Report) (c : Report) → Contains (latest_reports reports) c → Contains reports c × (eqb c.last (last_of reports) ≡ true)
of_kept reports c h = of_filter (λ (d : Report). eqb d.last (last_of reports)) reports c h

in_kept : (reports : List Report) (c : Report) → Contains reports c → c.last ≡ last_of reports → Contains (latest_reports reports) c
in_kept reports c h e = in_filter (λ (d : Report). eqb d.last (last_of reports)) reports c h (eq-eqb c.last (last_of reports) e)

base_from : (reports : List Report) (all : List Report) → latest_reports reports ≡ all → (c : Report) → Contains all c → IsBase reports
base_from reports [] e c (k, lt, _) = absurd (omega (arith, lt))
base_from reports (x ∷ xs) e c h = found (with_synced most (x ∷ xs)) refl
  where
    most : ℕ
    most = greatest (map (λ d. d.synced) (x ∷ xs))

    found : (few : List Report) → with_synced (greatest (map (λ d. d.synced) (x ∷ xs))) (x ∷ xs) ≡ few → IsBase reports
    found [] none =
        let m = greatest (map (λ (d : Report). d.synced) (x ∷ xs)) in
        let best = is_greatest (λ (d : Report). d.synced) x xs in
        let there = in_filter (λ (d : Report). eqb d.synced m) (x ∷ xs) best.0 best.1 (eq-eqb best.0.synced m best.2) in
        let left = subst (λ (l : List Report). Contains l best.0) none there in
        let short = left.1 in
        absurd (omega (arith, short))
    found (d ∷ few) is =
        let m = greatest (map (λ (d : Report). d.synced) (x ∷ xs)) in
        let low = lower d (lowest few) in
        let in_few = lowest_has (Contains (d ∷ few)) (d ∷ few) low (recursion_from_All (Contains (d ∷ few)) (d ∷ few) (All-contains_itself (d ∷ few))) refl in
        let parts = of_filter (λ (d : Report). eqb d.synced m) (x ∷ xs) low (subst (λ (l : List Report). Contains l low) (sym is) in_few) in
        let kept_parts = of_kept reports low (subst (λ (l : List Report). Contains l low) (sym e) parts.0) in
        let synced : low.synced ≡ m = eqb-true low.synced m parts.1 in
        let part : merged_synced_part (latest_reports reports) ≡ take low.synced low.log =
        ap merged_synced_part e ∙ ap (λ (l : List Report). synced_entries (lowest l)) is in
        record {
          c = low;
          among = kept_parts.0;
          last = eqb-true low.last (last_of reports) kept_parts.1;
          most = λ y member kept_last.
              let in_all : Contains (x ∷ xs) y = subst (λ (l : List Report). Contains l y) e (in_kept reports y member kept_last) in
              let le = within_greatest (λ (d : Report). d.synced) (x ∷ xs) y in_all in
              omega (arith, le, synced);
          is = ap keys_of part ∙ sym (take-map (λ (e : Entry). e.key) low.synced low.log);
        }

-- some reports have a base
pub base_of : (reports : List Report) → 0 < length reports → IsBase reports
base_of [] some = absurd (omega (arith, some))
base_of (x ∷ xs) some =
    let c = is_greatest (λ (d : Report). d.last) x xs in
    base_from (x ∷ xs) (latest_reports (x ∷ xs)) refl c.0 (in_kept (x ∷ xs) c.0 c.1 c.2)

-- ---- what the merged log begins with

pub synced_stays : (f : ℕ) (reports : List Report) (P : List Key)
    → IsPrefix P (keys_of (merged_synced_part (latest_reports reports))) → IsPrefix P (keys_of (merged f reports))
synced_stays f reports P p = prefix_of_test P (keys_of (merged f reports))
    (synced_prefix f reports P (test_of_prefix P (keys_of (merged_synced_part (latest_reports reports))) p))

-- a list that each report from a fast quorum begins with, and is of the greatest last view
pub fast_count : (f : ℕ) (quorum : List ℕ) (reports : List Report) (P : List Key) → IsChoice (group_size f) quorum → fast_quorum f ≤ length quorum
    → IsChoice (group_size f) (senders reports) → length reports ≡ slow_quorum f
    → ((c : Report) → Contains reports c → is_in quorum c.sender ≡ true → (c.last ≡ last_of reports) × IsPrefix P (keys_of c.log))
    → threshold f ≤ count_beginning P (latest_reports reports)
fast_count f quorum reports P choice enough members size holds =
    let some = fast_members f quorum reports choice enough members size in
    let from_quorum : Report → Bool = λ c. is_in quorum c.sender in
    let among = pass_twice from_quorum (λ (c : Report). begins_with (keys_of c.log) P) (λ (c : Report). eqb c.last (last_of reports)) reports
    (λ c there h. let both = holds c there h in (eq-eqb c.last (last_of reports) both.0, test_of_prefix P (keys_of c.log) both.1)) in
    omega (arith, some, among)

pub fast_stays : (f : ℕ) (reports : List Report) (P : List Key) → AreFit reports → length reports ≡ slow_quorum f
    → threshold f ≤ count_beginning P (latest_reports reports)
    → Comparable P (keys_of (merged_synced_part (latest_reports reports))) → IsPrefix P (keys_of (merged f reports))
fast_stays f reports P fit size enough either =
    let base = keys_of (merged_synced_part (latest_reports reports)) in
    let in_tests : (begins_with base P ≡ true) ⊎ (begins_with P base ≡ true) = elim either [
      | inl shorter ↦ inl (test_of_prefix P base shorter)
      | inr longer ↦ inr (test_of_prefix base P longer)
    ] in
    prefix_of_test P (keys_of (merged f reports)) (prefix_stays f reports P fit (omega (arith, size)) enough in_tests)
