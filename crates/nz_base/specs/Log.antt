-- Logs, by their keys.
use Rattle.std.specs.Prelude.{ℕ, ◌<◌, Bool, true, List, [], ◌∷◌, length, map, take, slice_index_or, IsTrue, IsFalse}
use Rattle.std.specs.List.{list_any}
use Rattle.nz_base.specs.declared.key.Key.{Key}
use Rattle.nz_base.specs.declared.key.Id.{Id}
use Rattle.nz_base.specs.declared.key.Entry.{Entry}
use Rattle.nz_base.specs.Key.{key_below, key_eq, id_eq, id_of}

-- The keys of a log, in its order.
abbrev pub keys_of : List Entry → List Key
keys_of log = map (λ e. e.key) log

-- Whether a key is in a list.
abbrev pub has_key : List Key → Key → Bool
has_key keys key = list_any (key_eq key) keys

-- Whether a key of a list has the id.
abbrev pub has_id : List Key → Id → Bool
has_id keys id = list_any (λ k. id_eq id (id_of k)) keys

-- The first entry with the id is at this place.
pub record IsFirstPlace (entries : List Entry) (id : Id) (place : ℕ) : Type 0 where
  pub within : place < length entries
  pub here : (d : Entry) → IsTrue (id_eq id (id_of (slice_index_or entries place d).key))
  pub not_before : IsFalse (has_id (keys_of (take place entries)) id)

-- Each key comes before those after it.
abbrev pub AreRising : List Key → Type 0
AreRising [] = Unit {0}
AreRising (k ∷ ks) = ((x : Key) → IsTrue (has_key ks x) → IsTrue (key_below k x)) × AreRising ks

-- No id is in the list twice.
abbrev pub HaveOwnIds : List Key → Type 0
HaveOwnIds [] = Unit {0}
HaveOwnIds (k ∷ ks) = IsFalse (has_id ks (id_of k)) × HaveOwnIds ks

-- The keys of a log rise, and each request is in it once.
pub record IsLog (log : List Entry) : Type 0 where
  pub rising : AreRising (keys_of log)
  pub own_ids : HaveOwnIds (keys_of log)

-- Whether a key is above the last of some keys.
abbrev pub is_above_last : List Key → Key → Bool
is_above_last [] key = true
is_above_last (k ∷ []) key = key_below k key
is_above_last (k ∷ l ∷ keys) key = is_above_last (l ∷ keys) key
