-- The keys of the table in which releases are looked up.
use Rattle.std.specs.Prelude.{Bool, ◌&&◌, ◌==◌}
use Rattle.std.specs.Str.{bytes_eq}
use Rattle.nz_locks.specs.declared.holding.Holding.{Holding}

-- Whether client and name are the same.
abbrev pub same_holding : Holding → Holding → Bool
same_holding a b = (a.client == b.client) && bytes_eq a.name.now b.name.now
