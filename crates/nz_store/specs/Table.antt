-- The table in which the code keeps a store, seen as the store's entries.
use Rattle.std.specs.Prelude.{ℕ, List, map}
use Rattle.std.specs.declared.cmp.Ordering.{Ordering}
use Rattle.std.specs.Ordering.{nat_cmp}
use Rattle.std.specs.Cmp.Lexicographic.{slice_cmp}
use Rattle.std.specs.Global.{Vec}
use Rattle.std.specs.BTreeMap.{BTreeMap, IsOrdered}
use Rattle.nz_store.specs.Entries.{Entries}

-- The entries without where their keys lie in memory.
abbrev pub entries_of : List (Vec ℕ × List ℕ) → Entries
entries_of table = map (λ e. (e.0.items, e.1)) table

-- Keys are compared by their bytes.
abbrev pub table_key_cmp : Vec ℕ → Vec ℕ → Ordering
table_key_cmp a b = slice_cmp nat_cmp a.items b.items

-- The table's keys rise.
pub record IsInOrder (table : BTreeMap (Vec ℕ) (List ℕ)) : Type 0 where
  pub ordered : IsOrdered table_key_cmp table
