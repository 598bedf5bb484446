-- What a log answers to a list of calls. A call whose condition does not hold is skipped, and changes nothing.
use Rattle.std.specs.Prelude.{Bool, true, not, ◌&&◌, nat_lt, nat_le, List, [], ◌∷◌, ◌++◌, length, if◌then◌else◌}
use Rattle.std.specs.List.{list_all}
use Rattle.nz_base.specs.declared.key.Key.{Key}
use Rattle.nz_base.specs.declared.key.Entry.{Entry}
use Rattle.nz_base.specs.Key.{key_below, id_of}
use Rattle.nz_base.specs.Log.{keys_of, has_id, is_above_last}
use Rattle.nz_base.specs.declared.limits.TheConstants.{MAX_ENTRIES}
use Rattle.nz_log.specs.declared.calls.LogCall.{LogCall}
use Rattle.nz_log.specs.declared.calls.LogCall.TheVariants.{Append, SyncAll, Modify, ReplaceAll, PlaceOf, DigestAt}
use Rattle.nz_log.specs.declared.calls.LogAnswer.{LogAnswer}
use Rattle.nz_log.specs.declared.calls.LogAnswer.TheVariants.{Nothing, Removed, Place, Sum, Skipped}
use Rattle.nz_log.specs.Places.{place_of, digest_at}
use Rattle.nz_log.specs.Synced.{Log, synced_part, log_with_synced, displaced_entries, left_out}

-- ---- the conditions

-- An entry of this key may follow these entries: its key is above the last one, and its id is new.
abbrev pub may_follow : List Entry → Key → Bool
may_follow es key = is_above_last (keys_of es) key && not (has_id (keys_of es) (id_of key))

-- Whether the log may have one more entry.
abbrev pub has_room : Log → Bool
has_room log = nat_lt (length log.entries) MAX_ENTRIES

-- Each key is above those before it.
abbrev pub are_rising : List Key → Bool
are_rising [] = true
are_rising (k ∷ ks) = list_all (key_below k) ks && are_rising ks

-- No id comes twice.
abbrev pub have_own_ids : List Key → Bool
have_own_ids [] = true
have_own_ids (k ∷ ks) = not (has_id ks (id_of k)) && have_own_ids ks

-- The entries are those of a log.
abbrev pub may_be_log : List Entry → Bool
may_be_log list = are_rising (keys_of list) && have_own_ids (keys_of list)

-- A list may be put in the place of a log.
abbrev pub may_replace : List Entry → Bool
may_replace list = may_be_log list && nat_le (length list) MAX_ENTRIES

-- ---- one call

-- What a call answers: what it removed, nothing, or that it was skipped.
abbrev pub answer_to : Log → LogCall → LogAnswer
answer_to log (Append e) = if may_follow log.entries e.key && has_room log then Nothing else Skipped
answer_to log SyncAll = Nothing
answer_to log (Modify e) = if may_follow (synced_part log) e.key && has_room log then Removed (displaced_entries log e) else Skipped
answer_to log (ReplaceAll list) = if may_replace list then Removed (left_out log.entries list) else Skipped
answer_to log (PlaceOf id) = Place (place_of log.entries id)
answer_to log (DigestAt place) = if nat_lt place (length log.entries) then Sum (digest_at log.entries place) else Skipped

-- The log after it.
abbrev pub after_call : Log → LogCall → Log
after_call log (Append e) = if may_follow log.entries e.key && has_room log then record log { entries = log.entries ++ e ∷ [] } else log
after_call log SyncAll = record log { synced = length log.entries }
after_call log (Modify e) = if may_follow (synced_part log) e.key && has_room log then log_with_synced log e else log
after_call log (ReplaceAll list) = if may_replace list then record { entries = list; synced = length list } else log
after_call log (PlaceOf id) = log
after_call log (DigestAt place) = log

-- ---- a list of calls

-- The answers to calls in turn.
abbrev pub answers_to : Log → List LogCall → List LogAnswer
answers_to log [] = []
answers_to log (call ∷ calls) = answer_to log call ∷ answers_to (after_call log call) calls

-- The log after calls in turn.
abbrev pub after_calls : Log → List LogCall → Log
after_calls log [] = log
after_calls log (call ∷ calls) = after_calls (after_call log call) calls
