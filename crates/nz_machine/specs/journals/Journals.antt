-- What a journal is of, and its history as it is printed.
use Rattle.std.specs.Prelude.{ℕ, suc, List, [], ◌∷◌, ◌++◌, Option, Some, None, reverse}
use Rattle.nz_base.specs.Key.{id_of}
use Rattle.nz_base.specs.declared.key.Entry.{Entry}
use Rattle.nz_store.specs.declared.command.Answer.{Answer}
use Rattle.nz_store.specs.Sequence.{reply}
use Rattle.nz_machine.specs.declared.event.Record.{Record}
use Rattle.nz_machine.specs.declared.journal.Journal.{Journal}
use Rattle.nz_machine.specs.declared.journal.Executed.{Executed}
use Rattle.nz_machine.specs.rules.State.{Group}
use Rattle.nz_machine.specs.rules.Replicas.{commands}
use Rattle.nz_machine.specs.runs.History.{history}
use Rattle.nz_machine.specs.runs.Schedule.{group_of}

-- The group that runs.
abbrev pub group_in : Journal → Group
group_in journal = group_of journal.scenario

-- The records, the newest first.
abbrev pub run_in : Journal → List Record
run_in journal = reverse journal.records

-- The entry with its answer, if there is one.
abbrev pub executed_if_answered : Entry → Option Answer → List Executed
executed_if_answered e None = []
executed_if_answered e (Some answer) = record { id = id_of e.key; command = e.command; answer = answer } ∷ []

-- The entries from a place of the history on, counted from 0, with what the one store that executes the
-- history answers them.
abbrev pub executed_from : List Entry → ℕ → List Entry → List Executed
executed_from H place [] = []
executed_from H place (e ∷ es) = executed_if_answered e (reply (commands H) place) ++ executed_from H (suc place) es

-- All entries of the history, each with its answer.
abbrev pub executed_entries : List Entry → List Executed
executed_entries H = executed_from H 0 H

-- The history of a journal's run.
abbrev pub history_in : Journal → List Executed
history_in journal = executed_entries (history (group_in journal) (run_in journal))
