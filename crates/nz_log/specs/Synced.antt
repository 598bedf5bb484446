-- Logs that are made to agree with the leader's, from the first entry on.
use Rattle.std.specs.Prelude.{ℕ, ◌+◌, ◌≤◌, Bool, not, ◌&&◌, List, ◌∷◌, ◌++◌, length, take, drop, filter}
use Rattle.nz_base.specs.declared.key.Key.{Key}
use Rattle.nz_base.specs.declared.key.Entry.{Entry}
use Rattle.nz_base.specs.Key.{key_below, id_eq, id_of}
use Rattle.nz_base.specs.Log.{keys_of, has_id, IsLog}
use Rattle.nz_base.specs.declared.limits.TheConstants.{MAX_ENTRIES}

-- The entries of a log, and how many of them, from the first on, agree with the leader's log.
pub record Log : Type 0 where
  pub entries : List Entry
  pub synced : ℕ

-- What every log keeps.
pub record IsSound (log : Log) : Type 0 where
  pub ordered : IsLog log.entries
  pub within : log.synced ≤ length log.entries
  pub few : length log.entries ≤ MAX_ENTRIES

-- ---- an entry put at the end of the synced part

-- The synced entries: the first ones of the log.
abbrev pub synced_part : Log → List Entry
synced_part log = take log.synced log.entries

-- The entries after the synced ones.
abbrev pub unsynced_part : Log → List Entry
unsynced_part log = drop log.synced log.entries

-- Whether an entry stays after one with this key: its key is above, and its id is another.
abbrev pub stays_after : Key → Entry → Bool
stays_after key x = key_below key x.key && not (id_eq (id_of key) (id_of x.key))

-- Whether it loses its place to one with this key: its key is not above, and its id is another.
abbrev pub is_displaced : Key → Entry → Bool
is_displaced key x = not (key_below key x.key) && not (id_eq (id_of key) (id_of x.key))

-- The log with the entry as the last of its synced part.
abbrev pub log_with_synced : Log → Entry → Log
log_with_synced log e =
    record { entries = synced_part log ++ e ∷ filter (stays_after e.key) (unsynced_part log); synced = log.synced + 1 }

-- The entries that lose their places to it.
abbrev pub displaced_entries : Log → Entry → List Entry
displaced_entries log e = filter (is_displaced e.key) (unsynced_part log)

-- ---- a list put in the place of a log

-- The old entries whose ids are not in the list.
abbrev pub left_out : List Entry → List Entry → List Entry
left_out old list = filter (λ e. not (has_id (keys_of list) (id_of e.key))) old
