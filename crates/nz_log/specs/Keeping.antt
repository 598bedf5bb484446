-- What a log keeps beside its entries: one digest at each place, and the place of each id.
use Rattle.std.specs.Prelude.{◌≡◌, ℕ, ◌+◌, ◌<◌, ◌≤◌, ◌⊎◌, true, false, List, ◌++◌, length, take, drop, slice_index_or, Option, IsSome}
use Rattle.std.specs.Map.{lookup}
use Rattle.nz_base.specs.declared.key.Id.{Id}
use Rattle.nz_base.specs.declared.key.Key.{Key}
use Rattle.nz_base.specs.declared.key.Entry.{Entry}
use Rattle.nz_base.specs.Key.{id_eq, id_of}
use Rattle.nz_base.specs.Log.{keys_of, has_id, HaveOwnIds}
use Rattle.nz_digest.specs.Digests.{digest_of_key, xor_bytes}
use Rattle.nz_log.specs.Places.{place_of, digest_of_log, digest_at}
use Rattle.nz_log.specs.Synced.{Log, IsSound}

-- The digest of the entries and one more, of this key.
abbrev pub digest_with : List Entry → Key → List ℕ
digest_with es key = xor_bytes (digest_of_log es) (digest_of_key key.deadline key.client key.num)

-- The digests are those at the places of the entries.
pub record IsSummed (es : List Entry) (digests : List (List ℕ)) : Type 0 where
  pub count : length digests ≡ length es
  pub sums : (k : ℕ) → k < length es → (d : List ℕ) → slice_index_or digests k d ≡ digest_at es k

-- What is kept beside a log is right: its digests are those at its places, and the index has its ids at their places.
pub record IsKeptLog (log : Log) (digests : List (List ℕ)) (places : List (Id × ℕ)) : Type 0 where
  pub sound : IsSound log
  pub summed : IsSummed log.entries digests
  pub found : (i : Id) → lookup (id_eq i) places ≡ place_of log.entries i

-- The first entries of both lists, this many, have the same keys.
pub record HaveCommonPrefix (es fs : List Entry) (count : ℕ) : Type 0 where
  pub within : count ≤ length es
  pub fits : count ≤ length fs
  pub same : keys_of (take count es) ≡ keys_of (take count fs)

-- The entries without the one at a place.
abbrev pub without_place : List Entry → ℕ → List Entry
without_place es place = take place es ++ drop (place + 1) es

-- The first entry that is not synced has the key.
pub record IsNext (log : Log) (key : Key) : Type 0 where
  pub within : log.synced < length log.entries
  pub same : (d : Entry) → (slice_index_or log.entries log.synced d).key ≡ key

-- In the midst of a modification: the index is right for the entries that have their places, and still has the ids of
-- the others. The id of the key itself is among the first.
pub record IsMidway (key : Key) (settled others : List Entry) (index : Id → Option ℕ) : Type 0 where
  pub own : HaveOwnIds (keys_of others)
  pub apart : (i : Id) → has_id (keys_of others) i ≡ true → id_eq (id_of key) i ≡ false → has_id (keys_of settled) i ≡ false
  pub right : (i : Id) → (has_id (keys_of others) i ≡ false) ⊎ (id_eq (id_of key) i ≡ true) → index i ≡ place_of settled i
  pub held : (i : Id) → has_id (keys_of others) i ≡ true → IsSome (index i)
