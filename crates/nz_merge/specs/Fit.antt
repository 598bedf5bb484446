-- The test of what a replica may report.
use Rattle.std.specs.Prelude.{Bool, true, not, ◌&&◌, nat_le, List, [], ◌∷◌, length}
use Rattle.nz_base.specs.declared.key.Key.{Key}
use Rattle.nz_base.specs.Key.{key_below, id_eq, id_of}
use Rattle.nz_base.specs.Log.{keys_of}
use Rattle.nz_merge.specs.declared.report.Report.{Report}

-- Whether a key may come before these.
abbrev pub comes_first : Key → List Key → Bool
comes_first key [] = true
comes_first key (k ∷ keys) = (key_below key k && not (id_eq (id_of key) (id_of k))) && comes_first key keys

-- Whether keys rise and ids differ.
abbrev pub are_log : List Key → Bool
are_log [] = true
are_log (k ∷ keys) = comes_first k keys && are_log keys

-- Whether a report can be: its log is one, and no more of it is synced than it has.
abbrev pub is_fit : Report → Bool
is_fit c = nat_le c.synced (length c.log) && are_log (keys_of c.log)

-- The same of all reports.
abbrev pub are_fit : List Report → Bool
are_fit [] = true
are_fit (c ∷ reports) = is_fit c && are_fit reports
