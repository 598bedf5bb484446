-- The order of keys, and the id that a key holds.
use Rattle.std.specs.Prelude.{◌≡◌, ◌<◌, ◌⊎◌, Bool, ◌==◌, ◌&&◌}
use Rattle.std.specs.Ordering.{nat_cmp, ordering_then, is_lt}
use Rattle.std.specs.declared.cmp.Ordering.{Ordering}
use Rattle.nz_base.specs.declared.key.Key.{Key}
use Rattle.nz_base.specs.declared.key.Id.{Id}

-- One key comes before another: by deadline, then by client, then by number.
abbrev pub KeyBelow : Key → Key → Type 0
KeyBelow a b =
    (a.deadline < b.deadline)
    ⊎ ((a.deadline ≡ b.deadline) × ((a.client < b.client)
    ⊎ ((a.client ≡ b.client) × (a.num < b.num))))

-- The same order, as the answer of a comparison.
abbrev pub key_cmp : Key → Key → Ordering
key_cmp a b = ordering_then (nat_cmp a.deadline b.deadline) (ordering_then (nat_cmp a.client b.client) (nat_cmp a.num b.num))

-- The same order, as a test.
abbrev pub key_below : Key → Key → Bool
key_below a b = is_lt (key_cmp a b)

-- The request that a key belongs to.
abbrev pub id_of : Key → Id
id_of key = record { client = key.client; num = key.num }

-- Two are the same id.
abbrev pub id_eq : Id → Id → Bool
id_eq a b = (a.client == b.client) && (a.num == b.num)

-- Two are the same key.
abbrev pub key_eq : Key → Key → Bool
key_eq a b = (a.deadline == b.deadline) && ((a.client == b.client) && (a.num == b.num))
