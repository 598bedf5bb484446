-- Entries that wait: the early ones in the order of their keys, the late ones as they came.
use Rattle.std.specs.Prelude.{ℕ, Bool, true, not, List, [], ◌∷◌, Option, Some, None, filter, find, nat_le, if◌then◌else◌}
use Rattle.nz_base.specs.declared.key.Id.{Id}
use Rattle.nz_base.specs.declared.key.Key.{Key}
use Rattle.nz_base.specs.declared.key.Entry.{Entry}
use Rattle.nz_base.specs.Key.{key_below, id_eq, id_of}

-- The entry with this id, if one has it.
abbrev pub find_id : List Entry → Id → Option Entry
find_id entries id = find (λ e. id_eq id (id_of e.key)) entries

-- The entries of other ids.
abbrev pub without : List Entry → Id → List Entry
without entries id = filter (λ e. not (id_eq id (id_of e.key))) entries

-- The entries with one more, which comes before the first whose key is above its key.
abbrev pub insert_by_key : List Entry → Entry → List Entry
insert_by_key [] e = e ∷ []
insert_by_key (f ∷ fs) e = if key_below e.key f.key then e ∷ f ∷ fs else f ∷ insert_by_key fs e

-- The first key of all.
abbrev pub first_key : List Entry → Option Key
first_key [] = None
first_key (e ∷ es) = Some e.key

-- Whether a key is above the last one of a log, or the log has none.
abbrev pub is_past : Option Key → Key → Bool
is_past None key = true
is_past (Some last) key = key_below last key

-- Whether the deadline is at most the clock.
abbrev pub is_due : ℕ → Entry → Bool
is_due clock e = nat_le e.key.deadline clock

-- The early entries that are due, in the order of their keys.
abbrev pub released : List Entry → ℕ → List Entry
released early clock = filter (is_due clock) early

-- The early entries that are not yet due.
abbrev pub held_back : List Entry → ℕ → List Entry
held_back early clock = filter (λ e. not (is_due clock e)) early

-- The first entry, if it passes the test.
abbrev pub first_if : (Entry → Bool) → List Entry → Option Entry
first_if passes [] = None
first_if passes (e ∷ es) = if passes e then Some e else None
