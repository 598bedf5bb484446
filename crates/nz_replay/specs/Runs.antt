-- The runs that the records of a journal make.
use Rattle.std.specs.Prelude.{ℕ, List, take, reverse}
use Rattle.nz_machine.specs.declared.event.Record.{Record}
use Rattle.nz_machine.specs.declared.journal.Journal.{Journal}

-- The run up to this many records of a journal.
abbrev pub run_up_to : Journal → ℕ → List Record
run_up_to journal count = reverse (take count journal.records)
