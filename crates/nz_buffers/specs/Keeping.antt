-- What the buffers keep: entries by their keys with the key of each id, and entries by their ids.
use Rattle.std.specs.Prelude.{◌≡◌, List}
use Rattle.std.specs.List.{AllByRecursion}
use Rattle.std.specs.Map.{lookup, values_of}
use Rattle.std.specs.Option.{option_map}
use Rattle.nz_base.specs.declared.key.Id.{Id}
use Rattle.nz_base.specs.declared.key.Key.{Key}
use Rattle.nz_base.specs.declared.key.Entry.{Entry}
use Rattle.nz_base.specs.Key.{id_eq, id_of}
use Rattle.nz_base.specs.Log.{keys_of, HaveOwnIds, IsLog}
use Rattle.nz_buffers.specs.Buffers.{find_id}

-- An entry is kept at its own key.
abbrev pub IsAtItsKey : Key × Entry → Type 0
IsAtItsKey p = p.0 ≡ p.1.key

-- An entry is kept at its own id.
abbrev pub IsAtItsId : Id × Entry → Type 0
IsAtItsId p = p.0 ≡ id_of p.1.key

-- The entries are at their keys and are those of a log, and the index has the key of each id.
pub record IsKeptBuffer (entries : List (Key × Entry)) (keys : List (Id × Key)) : Type 0 where
  pub at : AllByRecursion IsAtItsKey entries
  pub log : IsLog (values_of entries)
  pub found : (i : Id) → lookup (id_eq i) keys ≡ option_map (λ e. e.key) (find_id (values_of entries) i)

-- The entries are at their ids, each id once.
pub record AreByIds (entries : List (Id × Entry)) : Type 0 where
  pub at : AllByRecursion IsAtItsId entries
  pub own : HaveOwnIds (keys_of (values_of entries))
