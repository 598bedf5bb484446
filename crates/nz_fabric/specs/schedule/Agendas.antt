-- What contracts see of an agenda.
use Rattle.std.specs.Prelude.{ℕ, List}
use Rattle.nz_machine.specs.declared.journal.Item.{Item}

-- The items of a tick, and how many of them were taken.
pub record Progress : Type 0 where
  pub items : List Item
  pub next : ℕ

-- None of these was taken.
abbrev pub at_start : List Item → Progress
at_start items = record { items = items; next = 0 }
