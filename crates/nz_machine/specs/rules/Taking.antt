-- `sync_keys` on log, early and late alone, as sync_keys.rt computes it.
use Rattle.std.specs.Prelude.{Bool, not, ◌&&◌, nat_lt, List, [], ◌∷◌, Option, length}
use Rattle.std.specs.Option.{option_or}
use Rattle.nz_base.specs.declared.key.Id.{Id}
use Rattle.nz_base.specs.declared.key.Key.{Key}
use Rattle.nz_base.specs.declared.key.Entry.{Entry}
use Rattle.nz_base.specs.Key.{id_of}
use Rattle.nz_base.specs.Log.{keys_of, has_id, is_above_last}
use Rattle.nz_base.specs.declared.limits.TheConstants.{MAX_ENTRIES}
use Rattle.nz_log.specs.Synced.{Log, synced_part, unsynced_part}
use Rattle.nz_buffers.specs.Buffers.{find_id}
use Rattle.nz_machine.specs.declared.held.Held.{Held}
use Rattle.nz_machine.specs.declared.sync_keys.Taken.{Taken}
use Rattle.nz_machine.specs.declared.sync_keys.Taken.TheVariants.{Synced, Missing, Refused}
use Rattle.nz_machine.specs.rules.State.{ReplicaData}
use Rattle.nz_machine.specs.rules.LogMods.{sync_keys}

-- The state with these in place of its log, early and late.
abbrev pub with_parts : ReplicaData → Log → List Entry → List Entry → ReplicaData
with_parts s log early late = record s { log = log; early = early; late = late }

-- The same with what is held.
abbrev pub with_held : ReplicaData → Held → ReplicaData
with_held s held = with_parts s held.log held.early held.late

-- Whether the key may be the next that is synced in a log.
abbrev pub may_join : Log → Key → Bool
may_join log key =
    is_above_last (keys_of (synced_part log)) key
    && (not (has_id (keys_of (synced_part log)) (id_of key)) && nat_lt (length log.entries) MAX_ENTRIES)

-- The entry with the id beyond the synced ones, in early or in late.
abbrev pub found_in : Log → List Entry → List Entry → Id → Option Entry
found_in log early late id = option_or (find_id (unsynced_part log) id) (option_or (find_id early id) (find_id late id))

-- How the taking of keys goes on, once it is known what became of the first.
abbrev pub after_first : Taken → ReplicaData → Key → List Key → ReplicaData × List Key
after_first Synced s key keys = sync_keys s keys
after_first Missing s key keys = (s, key ∷ keys)
after_first Refused s key keys = (s, [])
