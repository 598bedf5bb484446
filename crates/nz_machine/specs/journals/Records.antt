-- The records of a run, and how they are kept.
use Rattle.std.specs.Prelude.{◌≡◌, ℕ, ◌+◌, ◌≤◌, ◌<◌, List, [], length, map, get_or}
use Rattle.std.specs.List.{AllByRecursion}
use Rattle.nz_base.specs.declared.actor.Actor.{Actor}
use Rattle.nz_base.specs.declared.actor.Actor.TheVariants.{Replica}
use Rattle.nz_machine.specs.declared.event.Event.TheVariants.{Tick}
use Rattle.nz_machine.specs.declared.event.Record.{Record}
use Rattle.nz_machine.specs.declared.records.Row.{Row}
use Rattle.nz_machine.specs.declared.records.Row.TheVariants as row
use Rattle.nz_machine.specs.declared.records.Kept.{Kept}
use Rattle.nz_machine.specs.declared.records.Kept.TheVariants as kept

-- The records in the order of recording, and how many there is room for.
pub record Recorded : Type 0 where
  pub records : List Record
  pub room : ℕ

-- The record of a clock at which nothing was sent.
abbrev pub silent_clock : ℕ → Actor → ℕ → Record
silent_clock tick actor reading = record { tick = tick; actor = actor; event = Tick reading; sends = [] }

-- The record is of a clock at which nothing was sent.
pub record IsSilentClock (step : Record) : Type 0 where
  pub reading : ℕ
  pub read : step.event ≡ Tick reading
  pub silent : step.sends ≡ []

-- The record of a row, beside those that are kept whole.
abbrev pub record_of_row : List Record → Row → Record
record_of_row others (row.Clock actor tick reading) = silent_clock tick actor reading
record_of_row others (row.Whole place) = get_or others place (silent_clock 0 (Replica 0) 0)

-- The records of rows.
abbrev pub records_of_rows : List Record → List Row → List Record
records_of_rows others rows = map (record_of_row others) rows

-- What the row needs is kept.
abbrev pub IsKept : List Record → Row → Type 0
IsKept others (row.Clock actor tick reading) = Unit {0}
IsKept others (row.Whole place) = place < length others

-- Each row has its record, and there is room for so many records of either kind.
pub record AreKept (rows : List Row) (others : List Record) (room rows_room others_room : ℕ) : Type 0 where
  pub kept : AllByRecursion (IsKept others) rows
  pub few : length rows ≤ room
  pub room_in_rows : room ≤ rows_room
  pub room_in_others : room + length others ≤ length rows + others_room

-- The record that is read.
abbrev pub record_read : Kept → Record
record_read (kept.Clock step) = step
record_read (kept.Whole step) = step.now
