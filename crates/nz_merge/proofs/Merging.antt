-- The laws of the merged log, at the threshold and the kept logs.
use Rattle.std.proofs.Common.{◌≡◌, ℕ, ◌+◌, ◌≤◌, true, List, ◌++◌, length, eqb, refl, arith, ◌⊎◌}
use Rattle.std.specs.Prelude.{map}
use Rattle.std.specs.List.{AllByRecursion}
use Rattle.nz_base.specs.declared.key.Key.{Key}
use Rattle.nz_base.specs.declared.key.Entry.{Entry}
use Rattle.nz_base.specs.Key.{id_eq, id_of}
use Rattle.nz_base.specs.Log.{keys_of, has_key, IsLog, is_above_last}
use Rattle.nz_base.proofs.Booleans.{length-filter_le}
use Rattle.nz_merge.specs.Merged.{begins_with, IsFit, AreFit, greatest, latest_reports, merged_synced_part, holders}
use Rattle.nz_merge.specs.Merged.{all_keys, later_keys, entry_in, threshold, merged, count_beginning}
use Rattle.nz_merge.specs.declared.report.Report.{Report}
use Rattle.nz_merge.proofs.CommonPrefixes.{begins_longer, begins_with_prefix, merged_keys}
use Rattle.nz_merge.proofs.Logs.{all_filter, merged_log}
use Rattle.nz_merge.proofs.Entries.{merged_has, merged_entries}

kept_fit : (Q : Report → Type 0) (reports : List Report) → AllByRecursion Q reports → AllByRecursion Q (latest_reports reports)
kept_fit Q reports each = all_filter Q (λ c. eqb c.last (greatest (map (λ d. d.last) reports))) reports each

pub is_log : (f : ℕ) (reports : List Report) → AreFit reports → IsLog (merged f reports)
unfolding merged
is_log f reports fit = merged_log (threshold f) (latest_reports reports) (kept_fit IsFit reports fit)

-- The merged log begins with the merged synced part.
pub starts : (f : ℕ) (reports : List Report) → (rest : List Entry) × (merged f reports ≡ merged_synced_part (latest_reports reports) ++ rest)
unfolding merged
starts f reports = (
  map (entry_in (latest_reports reports))
      (later_keys (threshold f) (latest_reports reports) (keys_of (merged_synced_part (latest_reports reports))) (all_keys (latest_reports reports))),
  refl,
)

pub synced_prefix : (f : ℕ) (reports : List Report) (prefix : List Key)
    → begins_with (keys_of (merged_synced_part (latest_reports reports))) prefix ≡ true → begins_with (keys_of (merged f reports)) prefix ≡ true
unfolding merged
synced_prefix f reports prefix h =
    let base = keys_of (merged_synced_part (latest_reports reports)) in
    rw (merged_keys (threshold f) (latest_reports reports))
    (begins_longer base (later_keys (threshold f) (latest_reports reports) base (all_keys (latest_reports reports))) prefix h)

pub prefix_stays : (f : ℕ) (reports : List Report) (prefix : List Key) → AreFit reports → length reports ≤ f + 1
    → threshold f ≤ count_beginning prefix (latest_reports reports)
    → (begins_with (keys_of (merged_synced_part (latest_reports reports))) prefix ≡ true)
    ⊎ (begins_with prefix (keys_of (merged_synced_part (latest_reports reports))) ≡ true) → begins_with (keys_of (merged f reports)) prefix ≡ true
unfolding merged
prefix_stays f reports prefix fit few enough either =
    let fewer = length-filter_le (λ c. eqb c.last (greatest (map (λ d. d.last) reports))) reports in
    begins_with_prefix (threshold f) (latest_reports reports) prefix (kept_fit IsFit reports fit) (omega arith) (omega (arith, few, fewer)) enough either

pub held_key : (f : ℕ) (reports : List Report) (key : Key) → AreFit reports
    → threshold f ≤ length (holders (latest_reports reports) key) → is_above_last (keys_of (merged_synced_part (latest_reports reports))) key ≡ true
    → ((x : Key) → has_key (keys_of (merged f reports)) x ≡ true → id_eq (id_of key) (id_of x) ≡ true → x ≡ key)
    → has_key (keys_of (merged f reports)) key ≡ true
unfolding merged
held_key f reports key fit enough above only = merged_has (threshold f) (latest_reports reports) key (kept_fit IsFit reports fit) (omega arith)
    enough above only

-- What is true of each entry of the reports is true of each entry of the merged log.
pub entries : (Q : Entry → Type 0) (f : ℕ) (reports : List Report) → AllByRecursion (λ c. AllByRecursion Q c.log) reports → AllByRecursion Q (merged f reports)
unfolding merged
entries Q f reports each = merged_entries Q (threshold f) (latest_reports reports) (kept_fit (λ c. AllByRecursion Q c.log) reports each) (omega arith)
