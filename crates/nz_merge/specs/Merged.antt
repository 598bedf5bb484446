-- The log that a new leader makes of the logs that replicas reported.
use Rattle.std.specs.Prelude.{ℕ, ◌+◌, ◌≤◌, max, Bool, true, false, not, ◌&&◌, ◌==◌, nat_le, nat_lt, if◌then◌else◌}
use Rattle.std.specs.Prelude.{List, [], ◌∷◌, ◌++◌, length, map, take, Option, Some, None}
use Rattle.std.specs.List.{filter, flat_map, AllByRecursion}
use Rattle.nz_base.specs.declared.key.Key.{Key}
use Rattle.nz_base.specs.declared.key.Entry.{Entry}
use Rattle.nz_base.specs.Cluster.{half_up}
use Rattle.nz_base.specs.Key.{key_below, key_eq, id_of}
use Rattle.nz_base.specs.Log.{keys_of, has_key, has_id, IsLog, is_above_last}
use Rattle.nz_merge.specs.declared.report.Report.{Report}

-- What a replica may report: its log is a log, and it has the entries that it calls synced.
pub record IsFit (c : Report) : Type 0 where
  pub log : IsLog c.log
  pub synced : c.synced ≤ length c.log

-- All reports are fit.
abbrev pub AreFit : List Report → Type 0
AreFit reports = AllByRecursion IsFit reports

-- ---- which logs count

-- The greatest of some numbers, 0 of none.
abbrev pub greatest : List ℕ → ℕ
greatest [] = 0
greatest (n ∷ ns) = max n (greatest ns)

-- The reports of a last view, and of the greatest.
abbrev pub of_view : ℕ → List Report → List Report
of_view view reports = filter (λ c. c.last == view) reports

-- The reports that count: those of the greatest last view.
abbrev pub latest_reports : List Report → List Report
latest_reports reports = of_view (greatest (map (λ c. c.last) reports)) reports

-- The report of the lowest sender.
abbrev pub lower : Report → Option Report → Report
lower c None = c
lower c (Some d) = if nat_lt d.sender c.sender then d else c

-- The lower of the best so far and one more: the code goes through the reports from the first on.
abbrev pub lower_of : Option Report → Report → Report
lower_of None c = c
lower_of (Some b) c = if nat_lt c.sender b.sender then c else b

-- The report of the lowest sender, if there is one.
abbrev pub lowest : List Report → Option Report
lowest [] = None
lowest (c ∷ reports) = Some (lower c (lowest reports))

-- ---- the synced part

-- The synced part of a report's log, if there is a report.
abbrev pub synced_entries : Option Report → List Entry
synced_entries None = []
synced_entries (Some c) = take c.synced c.log

-- The reports with a synced count, and the synced entries of the one with the greatest, of the lowest
-- sender among those.
abbrev pub with_synced : ℕ → List Report → List Report
with_synced count reports = filter (λ c. c.synced == count) reports

-- The synced part that is taken: of the reports with the greatest synced count that of the lowest sender.
abbrev pub merged_synced_part : List Report → List Entry
merged_synced_part reports = synced_entries (lowest (with_synced (greatest (map (λ c. c.synced) reports)) reports))

-- ---- the later keys

-- The reports whose logs hold the key.
abbrev pub holders : List Report → Key → List Report
holders reports key = filter (λ c. has_key (keys_of c.log) key) reports

-- Keys put among others in their order, each once.
abbrev pub put_in_order : Key → List Key → List Key
put_in_order key [] = key ∷ []
put_in_order key (k ∷ keys) = if key_below key k then key ∷ k ∷ keys else (if key_eq key k then k ∷ keys else k ∷ put_in_order key keys)

-- The keys, each put in its place among the others.
abbrev pub put_all_in_order : List Key → List Key → List Key
put_all_in_order others [] = others
put_all_in_order others (k ∷ keys) = put_all_in_order (put_in_order k others) keys

-- The keys in rising order, each once.
abbrev pub sorted_keys : List Key → List Key
sorted_keys keys = put_all_in_order [] keys

-- All keys of the logs, in their order.
abbrev pub all_keys : List Report → List Key
all_keys reports = sorted_keys (flat_map (λ c. keys_of c.log) reports)

-- The keys of the logs that are above the last of some keys, in their order.
abbrev pub keys_above : List Key → List Report → List Key
keys_above base reports = sorted_keys (filter (is_above_last base) (flat_map (λ c. keys_of c.log) reports))

-- Whether a key is taken after those that were taken: enough logs hold it, it is above the last of them, and its id
-- is not among theirs.
abbrev pub is_taken : ℕ → List Report → List Key → Key → Bool
is_taken limit reports taken key =
    nat_le limit (length (holders reports key)) && (is_above_last taken key && not (has_id taken (id_of key)))

-- The keys that are taken after others, when these are gone through in turn.
unfoldable pub later_keys : ℕ → List Report → List Key → List Key → List Key
later_keys limit reports taken [] = []
later_keys limit reports taken (key ∷ keys) =
    if is_taken limit reports taken key then key ∷ later_keys limit reports (taken ++ key ∷ []) keys else later_keys limit reports taken keys

-- The command that a log has for a key.
abbrev pub command_of_key : Key → List Entry → List ℕ
command_of_key key [] = []
command_of_key key (e ∷ log) = if key_eq key e.key then e.command else command_of_key key log

-- The command of a key in a report's log, empty where there is no report.
abbrev pub command_of_report : Key → Option Report → List ℕ
command_of_report key None = []
command_of_report key (Some c) = command_of_key key c.log

-- A key with its command in the log of the lowest sender that holds it.
abbrev pub entry_in : List Report → Key → Entry
entry_in reports key = record { key = key; command = command_of_report key (lowest (holders reports key)) }

-- ---- the merged log

-- The synced part, and each later key that at least limit of the logs hold.
abbrev pub merged_from : ℕ → List Report → List Entry
merged_from limit reports =
    let base = merged_synced_part reports in
    base ++ map (entry_in reports) (later_keys limit reports (keys_of base) (all_keys reports))

-- A key is taken where one more than half of f, rounded up, hold it.
abbrev pub threshold : ℕ → ℕ
threshold f = half_up f + 1

-- The merged log: that of the reports that count, with keys that enough of their logs hold.
unfoldable pub merged : ℕ → List Report → List Entry
merged f reports = merged_from (threshold f) (latest_reports reports)

-- Whether one list of keys begins with another.
abbrev pub begins_with : List Key → List Key → Bool
begins_with keys [] = true
begins_with [] (f ∷ prefix) = false
begins_with (k ∷ keys) (f ∷ prefix) = key_eq f k && begins_with keys prefix

-- How many of the logs begin with these keys.
abbrev pub count_beginning : List Key → List Report → ℕ
count_beginning prefix reports = length (filter (λ c. begins_with (keys_of c.log) prefix) reports)
