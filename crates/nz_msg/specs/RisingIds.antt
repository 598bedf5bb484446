-- Keys in turn: each is above the one before it, and the numbers of each client rise.
use Rattle.std.specs.Prelude.{◌≡◌, ◌≤◌, Bool, true, nat_lt, ◌&&◌, List, length, slice_index, slice_set, replicate, Option, Some, None, IsTrue}
use Rattle.nz_base.specs.declared.key.Id.{Id}
use Rattle.nz_base.specs.declared.key.Key.{Key}
use Rattle.nz_base.specs.declared.limits.TheConstants.{MAX_CLIENTS}
use Rattle.nz_base.specs.Key.{key_below}
use Rattle.nz_base.specs.Log.{has_id, AreRising, is_above_last}
use Rattle.nz_msg.specs.declared.rising_ids.RisingIds.{RisingIds}

-- Whether a key is above the last one of others, or there are none.
abbrev pub is_above : Option Key → Key → Bool
is_above None key = true
is_above (Some last) key = key_below last key

-- Before the first key.
abbrev pub none_yet : RisingIds
none_yet = record { last = None; numbers = replicate MAX_CLIENTS 0 }

-- The key is above the last one, and its number above the last one of its client, which has a place among the numbers.
abbrev pub comes_in_turn : RisingIds → Key → Bool
comes_in_turn ids key =
    nat_lt key.client (length ids.numbers) && (nat_lt (slice_index ids.numbers key.client) key.num && is_above ids.last key)

-- The key is the last one, also of its client.
abbrev pub after_key : RisingIds → Key → RisingIds
after_key ids key = record { last = Some key; numbers = slice_set ids.numbers key.client key.num }

-- The keys rise up to the last one, and none has a number above the last one of its client.
pub record AreInTurn (keys : List Key) (ids : RisingIds) : Type 0 where
  pub rising : AreRising keys
  pub up_to_last : (k : Key) → is_above ids.last k ≡ is_above_last keys k
  pub numbered : (i : Id) → IsTrue (has_id keys i) → i.num ≤ slice_index ids.numbers i.client
