-- One turn of going through the keys.
use Rattle.std.proofs.Common.{◌≡◌, ℕ, ◌≤◌, ◌<◌, Bool, true, false, ◌&&◌, not, List, [], ◌∷◌, ◌++◌, length, leb, refl, sym, ap, subst, ◌∙◌, append_assoc}
use Rattle.std.specs.Prelude.{map}
use Rattle.std.proofs.lemmas.Bool.{le-leb, lt-leb, and_from}
use Rattle.std.proofs.lemmas.List.{map-append, append-nil}
use Rattle.nz_base.specs.declared.key.Key.{Key}
use Rattle.nz_base.specs.declared.key.Entry.{Entry}
use Rattle.nz_base.specs.Key.{id_of}
use Rattle.nz_base.specs.Log.{keys_of, has_id, is_above_last}
use Rattle.nz_merge.specs.Merged.{holders, is_taken, later_keys, entry_in, merged_synced_part, keys_above}
use Rattle.nz_merge.specs.Merged.{merged_from, merged, threshold, greatest, of_view, latest_reports}
use Rattle.nz_merge.specs.declared.report.Report.{Report}
use Rattle.nz_merge.proofs.Above.{same_later}

-- what is taken so far, and what will be
abbrev pub in_all : ℕ → List Report → List Entry → List Key → List Entry
in_all limit reports log keys = log ++ map (entry_in reports) (later_keys limit reports (keys_of log) keys)

pub take_turn : (limit : ℕ) (reports : List Report) (log : List Entry) (key : Key) (keys : List Key) (total : List Entry) → limit ≤ length (holders reports key)
    → (is_above_last (keys_of log) key && not (has_id (keys_of log) (id_of key))) ≡ true
    → in_all limit reports log (key ∷ keys) ≡ total → in_all limit reports (log ++ entry_in reports key ∷ []) keys ≡ total
unfolding later_keys
take_turn limit reports log key keys total enough follows h =
    let joins : is_taken limit reports (keys_of log) key ≡ true =
    and_from (leb limit (length (holders reports key)))
    (is_above_last (keys_of log) key && not (has_id (keys_of log) (id_of key))) (le-leb limit (length (holders reports key)) enough) follows in
    let added : keys_of (log ++ entry_in reports key ∷ []) ≡ keys_of log ++ key ∷ [] = map-append (λ (e : Entry). e.key) log (entry_in reports key ∷ []) in
    let rest = map (entry_in reports) (later_keys limit reports (keys_of log ++ key ∷ []) keys) in
    let there : log ++ entry_in reports key ∷ rest ≡ total = rw joins at h in
    ap (λ (ks : List Key). (log ++ entry_in reports key ∷ [])
    ++ map (entry_in reports) (later_keys limit reports ks keys)) added ∙ append_assoc log (entry_in reports key ∷ []) rest ∙ there

skip : (limit : ℕ) (reports : List Report) (log : List Entry) (key : Key) (keys : List Key) (total : List Entry)
    → is_taken limit reports (keys_of log) key ≡ false
    → in_all limit reports log (key ∷ keys) ≡ total → in_all limit reports log keys ≡ total
unfolding later_keys
skip limit reports log key keys total away h = rw away at h

pub skip_few : (limit : ℕ) (reports : List Report) (log : List Entry) (key : Key) (keys : List Key) (total : List Entry) → length (holders reports key) < limit
    → in_all limit reports log (key ∷ keys) ≡ total → in_all limit reports log keys ≡ total
skip_few limit reports log key keys total few h =
    skip limit reports log key keys total (let less = lt-leb limit (length (holders reports key)) few in rw less refl) h

pub skip_other : (limit : ℕ) (reports : List Report) (log : List Entry) (key : Key) (keys : List Key) (total : List Entry)
    → limit ≤ length (holders reports key)
    → (is_above_last (keys_of log) key && not (has_id (keys_of log) (id_of key))) ≡ false
    → in_all limit reports log (key ∷ keys) ≡ total → in_all limit reports log keys ≡ total
skip_other limit reports log key keys total enough away h =
    skip limit reports log key keys total (let more = le-leb limit (length (holders reports key)) enough in rw (more, away) refl) h

pub no_turn : (limit : ℕ) (reports : List Report) (log total : List Entry) → in_all limit reports log [] ≡ total → log ≡ total
unfolding later_keys
no_turn limit reports log total h = sym (append-nil log) ∙ h

-- ---- the same, as the loop has them

-- Where the loop begins, it has still to give all that the merge gives.
pub start : (limit : ℕ) (reports : List Report) (log : List Entry) (set keys : List Key)
    → log ≡ merged_synced_part reports → keys ≡ set → set ≡ keys_above (keys_of log) reports
    → in_all limit reports log keys ≡ merged_from limit reports
start limit reports log set keys synced same above =
    ap (λ (ks : List Key). in_all limit reports log ks) (same ∙ above)
    ∙ ap (λ (l : List Entry). in_all limit reports l (keys_above (keys_of l) reports)) synced
    ∙ ap (λ (ks : List Key). merged_synced_part reports ++ map (entry_in reports) ks) (same_later limit reports (keys_of (merged_synced_part reports)))

-- A key that enough logs have, and that follows, is put last in the log.
pub taken : (limit : ℕ) (reports : List Report) (log after total : List Entry) (before keys : List Key) (key : Key)
    (entry : Entry) (count : ℕ) (follows : Bool) → before ≡ key ∷ keys
    → count ≡ length (holders reports key) → limit ≤ count
    → follows ≡ (is_above_last (keys_of log) key && not (has_id (keys_of log) (id_of key))) → follows ≡ true
    → entry ≡ entry_in reports key → after ≡ log ++ entry ∷ []
    → in_all limit reports log before ≡ total → in_all limit reports after keys ≡ total
taken limit reports log after total before keys key entry count follows first counted enough tested yes_follows made pushed h =
    let now : in_all limit reports log (key ∷ keys) ≡ total = ap (λ (ks : List Key). in_all limit reports log ks) (sym first) ∙ h in
    let next = take_turn limit reports log key keys total (subst (λ (n : ℕ). limit ≤ n) counted enough) (sym tested ∙ yes_follows) now in
    let log_is : after ≡ log ++ entry_in reports key ∷ [] = pushed ∙ ap (λ (e : Entry). log ++ e ∷ []) made in
    ap (λ (l : List Entry). in_all limit reports l keys) log_is ∙ next

pub left_few : (limit : ℕ) (reports : List Report) (log total : List Entry) (before keys : List Key) (key : Key) (count : ℕ) → before ≡ key ∷ keys
    → count ≡ length (holders reports key) → count < limit
    → in_all limit reports log before ≡ total → in_all limit reports log keys ≡ total
left_few limit reports log total before keys key count first counted few h =
    skip_few limit reports log key keys total (subst (λ (n : ℕ). n < limit) counted few) (ap (λ (ks : List Key). in_all limit reports log ks) (sym first) ∙ h)

pub left_other : (limit : ℕ) (reports : List Report) (log total : List Entry) (before keys : List Key) (key : Key) (count : ℕ) (follows : Bool)
    → before ≡ key ∷ keys → count ≡ length (holders reports key) → limit ≤ count
    → follows ≡ (is_above_last (keys_of log) key && not (has_id (keys_of log) (id_of key))) → follows ≡ false
    → in_all limit reports log before ≡ total → in_all limit reports log keys ≡ total
left_other limit reports log total before keys key count follows first counted enough tested away h =
    skip_other limit reports log key keys total (subst (λ (n : ℕ). limit ≤ n) counted enough) (sym tested ∙ away)
    (ap (λ (ks : List Key). in_all limit reports log ks) (sym first) ∙ h)

-- With no key left, the log is the merged one.
pub ended : (limit : ℕ) (reports : List Report) (log total : List Entry) (keys : List Key) → keys ≡ [] → in_all limit reports log keys ≡ total → log ≡ total
ended limit reports log total keys none h = no_turn limit reports log total (ap (λ (ks : List Key). in_all limit reports log ks) (sym none) ∙ h)

pub same_merge : (least f view : ℕ) (slice reports : List Report) → least ≡ threshold f → slice ≡ reports
    → view ≡ greatest (map (λ c. c.last) slice) → merged_from least (of_view view slice) ≡ merged f reports
unfolding merged
same_merge least f view slice reports enough same last =
    ap (λ (n : ℕ). merged_from n (of_view view slice)) enough
    ∙ ap (λ (v : ℕ). merged_from (threshold f) (of_view v slice)) last ∙ ap (λ (cs : List Report). merged_from (threshold f) (latest_reports cs)) same
