-- A store as a finite map from keys to values: its entries, one for each key, in the keys' order.
use Rattle.std.specs.Prelude.{ℕ, not, List, [], filter, Option, Some, None}
use Rattle.std.specs.Ordering.{nat_cmp}
use Rattle.std.specs.Cmp.Lexicographic.{slice_cmp}
use Rattle.std.specs.List.Sorted.{IsStrictlySortedBy}
use Rattle.std.specs.Str.{bytes_eq}
use Rattle.std.specs.Map.{lookup, keys_of}
use Rattle.std.specs.BTreeMap.{insert_entry}

-- The pairs of a key and its value, in the order of the keys' bytes.
abbrev pub Entries : Type 0
Entries = List (List ℕ × List ℕ)

-- The map with no keys.
abbrev pub empty : Entries
empty = []

-- The value of a key, where it has one.
abbrev pub value_of : Entries → List ℕ → Option (List ℕ)
value_of entries key = lookup (bytes_eq key) entries

-- The same map, but with this value at the key.
abbrev pub with_value : Entries → List ℕ → List ℕ → Entries
with_value entries key value = insert_entry (slice_cmp nat_cmp) entries key value

-- The same map, but with no value at the key.
abbrev pub without_key : Entries → List ℕ → Entries
without_key entries key = filter (λ e. not (bytes_eq key e.0)) entries

-- The same map, but with this value or none at the key.
abbrev pub with_choice : Entries → List ℕ → Option (List ℕ) → Entries
with_choice entries key (Some value) = with_value entries key value
with_choice entries key None = without_key entries key

-- Each key is there once, in the order of their bytes.
abbrev pub IsMap : Entries → Type 0
IsMap entries = IsStrictlySortedBy (slice_cmp nat_cmp) (keys_of entries)
