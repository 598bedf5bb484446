-- The entries of a log in pages.
use Rattle.std.specs.Prelude.{◌≡◌, ℕ, ◌+◌, ◌*◌, ◌<◌, List, length}
use Rattle.std.specs.List.{AllByRecursion}
use Rattle.nz_base.specs.declared.key.Entry.{Entry}
use Rattle.nz_log.specs.declared.TheConstants.{PAGE}

-- All pages but the last are full, the last has room for one entry more, and the entries are counted.
pub record ArePages {P : Type 0} (entries_of : P → List Entry) (full : List P) (last : List Entry) (count : ℕ) : Type 0 where
  pub each : AllByRecursion (λ page. length (entries_of page) ≡ PAGE) full
  pub room : length last < PAGE
  pub counted : count ≡ PAGE * length full + length last
