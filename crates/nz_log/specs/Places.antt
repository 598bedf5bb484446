-- What is where in a log, and the digest of the entries up to a place.
use Rattle.std.specs.Prelude.{◌≡◌, ℕ, suc, ◌-◌, ◌<◌, true, List, [], ◌∷◌, length, map, take}
use Rattle.std.specs.Prelude.{slice_get, slice_index_or, Option, Some, None, if◌then◌else◌}
use Rattle.std.specs.Option.{option_map}
use Rattle.nz_base.specs.declared.key.Id.{Id}
use Rattle.nz_base.specs.declared.key.Entry.{Entry}
use Rattle.nz_base.specs.Key.{id_eq, id_of}
use Rattle.nz_digest.specs.Digests.{EntryKey, digest}

-- The first place of an entry with the id, if there is one.
abbrev pub place_of : List Entry → Id → Option ℕ
place_of [] id = None
place_of (e ∷ es) id = if id_eq id (id_of e.key) then Some 0 else option_map suc (place_of es id)

-- The entry at a place has the id.
pub record IsPlace (log : List Entry) (id : Id) (place : ℕ) : Type 0 where
  pub within : place < length log
  pub here : (d : Entry) → id_eq id (id_of (slice_index_or log place d).key) ≡ true

-- The last entry, if there is one.
abbrev pub last_entry : List Entry → Option Entry
last_entry log = slice_get log (length log - 1)

-- The key of an entry, as digests take it.
abbrev pub entry_key : Entry → EntryKey
entry_key e = record { deadline = e.key.deadline; client = e.key.client; num = e.key.num }

-- The digest of all entries.
abbrev pub digest_of_log : List Entry → List ℕ
digest_of_log log = digest (map entry_key log)

-- The digest of the log up to and with a place.
abbrev pub digest_at : List Entry → ℕ → List ℕ
digest_at log place = digest_of_log (take (suc place) log)
