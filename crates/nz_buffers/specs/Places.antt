-- Where the code finds an entry, or puts it.
use Rattle.std.specs.Prelude.{ℕ, suc, List, [], ◌∷◌, if◌then◌else◌}
use Rattle.nz_base.specs.declared.key.Key.{Key}
use Rattle.nz_base.specs.declared.key.Entry.{Entry}
use Rattle.nz_base.specs.Key.{key_below}

-- The place of the first entry whose key is above this key, counted from n.
abbrev pub key_place_from : ℕ → List Entry → Key → ℕ
key_place_from n [] key = n
key_place_from n (e ∷ es) key = if key_below key e.key then n else key_place_from (suc n) es key
