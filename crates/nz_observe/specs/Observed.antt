-- What is observed of a replica, and how it is printed.
use Rattle.std.specs.Prelude.{ℕ, zero, suc, Bool, List, [], ◌++◌, length, Option, Some, None, if◌then◌else◌, codes}
use Rattle.std.specs.Fmt.{decimal}
use Rattle.std.specs.Option.{option_map, option_eq}
use Rattle.std.specs.Str.{bytes_eq}
use Rattle.nz_base.specs.declared.key.Entry.{Entry}
use Rattle.nz_store.specs.declared.command.Answer.{Answer}
use Rattle.nz_store.specs.Entries.{value_of}
use Rattle.nz_store.specs.Sequence.{store_after, value_answer}
use Rattle.nz_text.specs.Text.{answer_text}
use Rattle.nz_machine.specs.declared.event.Record.{Record}
use Rattle.nz_machine.specs.rules.State.{Group}
use Rattle.nz_machine.specs.rules.Replicas.{commands}
use Rattle.nz_observe.specs.Ticks.{committed}

-- What one store that has executed the entries answers to a read of the key. A key that no command has is absent.
abbrev pub read_after : List ℕ → List Entry → Answer
read_after key entries = value_answer (value_of (store_after (commands entries)) key)

-- How many entries are committed, and the answer: the words of a line after its tick.
abbrev pub sight_text : ℕ → Answer → List ℕ
sight_text count answer = codes " " ++ (decimal count ++ (answer_text answer ++ codes "\n"))

-- The same of the entries that are committed.
abbrev pub sight : List ℕ → List Entry → List ℕ
sight key entries = sight_text (length entries) (read_after key entries)

-- What is seen of the replica at the end of the tick, nothing where it knows of no committed entries.
abbrev pub seen : Group → ℕ → List ℕ → ℕ → List Record → Option (List ℕ)
seen g m key tick J = option_map (sight key) (committed g m tick J)

-- The lines so far, and what the last of them has after its tick.
pub record Printed : Type 0 where
  pub bytes : List ℕ
  pub last : Option (List ℕ)

-- Before the first line.
abbrev pub nothing_printed : Printed
nothing_printed = record { bytes = []; last = None }

-- The line of a tick.
abbrev pub line : ℕ → List ℕ → List ℕ
line tick sight = codes "peek " ++ (decimal tick ++ sight)

-- Whether the last line has these words after its tick.
abbrev pub is_last : Printed → List ℕ → Bool
is_last p sight = option_eq bytes_eq p.last (Some sight)

-- What is seen at the end of the tick is printed, unless the last line says the same.
abbrev pub after_tick : ℕ → Option (List ℕ) → Printed → Printed
after_tick tick None p = p
after_tick tick (Some sight) p = if is_last p sight then p else record { bytes = p.bytes ++ line tick sight; last = Some sight }

-- What is printed of the ticks up to this one.
abbrev pub printed_to : Group → ℕ → List ℕ → List Record → ℕ → Printed
printed_to g m key J zero = nothing_printed
printed_to g m key J (suc tick) = after_tick (suc tick) (seen g m key (suc tick) J) (printed_to g m key J tick)

-- What is observed of the replica: for each tick at whose end it knows of committed entries a line with the tick, how
-- many they are and what a read of the key answers after them, where these are not those of the line before.
abbrev pub observed : Group → ℕ → List ℕ → List Record → ℕ → List ℕ
observed g m key J ticks = (printed_to g m key J ticks).bytes
