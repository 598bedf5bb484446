-- The text of a run: what its clients saw, what is open, the history, and the end. Its summary counts the lines.
use Rattle.std.specs.Prelude.{ℕ, suc, Bool, true, false, List, [], ◌∷◌, ◌++◌, length, Option, Some, None, if◌then◌else◌, codes, count_by}
use Rattle.std.specs.Fmt.{decimal}
use Rattle.std.specs.List.{list_any, flat_map}
use Rattle.nz_base.specs.Key.{id_eq}
use Rattle.nz_base.specs.declared.key.Id.{Id}
use Rattle.nz_store.specs.declared.command.Command.{Command}
use Rattle.nz_store.specs.declared.command.Answer.{Answer}
use Rattle.nz_store.specs.declared.command.Answer.TheVariants.{Done, Value, Absent, Differs}
use Rattle.nz_store.specs.Reading.{command_of}
use Rattle.nz_script.specs.Texts.{line_text, command_line}
use Rattle.nz_msg.specs.declared.message.Path.{Path}
use Rattle.nz_msg.specs.declared.message.Path.TheVariants.{Fast, Slow}
use Rattle.nz_machine.specs.declared.event.Record.{Record}
use Rattle.nz_machine.specs.declared.journal.Executed.{Executed}
use Rattle.nz_machine.specs.rules.State.{Group}
use Rattle.nz_machine.specs.declared.client_event.ClientEvent.{ClientEvent}
use Rattle.nz_machine.specs.declared.client_event.ClientEvent.TheVariants.{Sent, Accepted}
use Rattle.nz_machine.specs.runs.Events.{events}
use Rattle.nz_machine.specs.runs.History.{history}
use Rattle.nz_machine.specs.journals.Journals.{executed_entries}
use Rattle.nz_text.specs.declared.summaries.Sort.{Sort}
use Rattle.nz_text.specs.declared.summaries.Sort.TheVariants as sort
use Rattle.nz_text.specs.declared.printed.Printed.{Printed}

-- ---- lines

-- What ends each line.
abbrev pub text_newline : List ℕ
text_newline = codes "\n"

-- A client and its number of the request, after a space.
abbrev pub id_text : Id → List ℕ
id_text id = codes " c" ++ (decimal id.client ++ (codes " " ++ decimal id.num))

-- The command as a line of a scenario, after a space. Bytes that are no command have no text.
abbrev pub found_text : Option Command → List ℕ
found_text None = []
found_text (Some command) = codes " " ++ line_text (command_line command)

-- What the store answered, after a space.
abbrev pub answer_text : Answer → List ℕ
answer_text Done = codes " done"
answer_text (Value value) = codes " value " ++ value
answer_text Absent = codes " absent"
answer_text Differs = codes " differs"

-- How the request was decided, after a space.
abbrev pub path_text : Path → List ℕ
path_text Fast = codes " fast"
path_text Slow = codes " slow"

-- The line of an event: a request that was sent, or an answer that was accepted, and how it was decided.
abbrev pub event_line : ClientEvent → List ℕ
event_line (Sent id command) = codes "send" ++ (id_text id ++ (found_text (command_of command) ++ text_newline))
event_line (Accepted id answer path) = codes "accept" ++ (id_text id ++ (answer_text answer ++ (path_text path ++ text_newline)))

-- The line of a request without an acceptance.
abbrev pub open_line : Id → List ℕ
open_line id = codes "open" ++ (id_text id ++ text_newline)

-- The line of the history's entry at this place, counted from 1.
abbrev pub at_line : ℕ → Executed → List ℕ
at_line place e =
    codes "at " ++ (decimal place ++ (id_text e.id
    ++ (found_text (command_of e.command) ++ (codes " gives" ++ (answer_text e.answer ++ text_newline)))))

-- The lines of entries, the first of which has this place.
abbrev pub at_lines : ℕ → List Executed → List ℕ
at_lines place [] = []
at_lines place (e ∷ es) = at_line place e ++ at_lines (suc place) es

-- The events, then the open requests, then the history, then the end.
abbrev pub text_of_printed : Printed → List ℕ
text_of_printed p = flat_map event_line p.events ++ (flat_map open_line p.unanswered ++ (at_lines 1 p.history ++ codes "end\n"))

-- ---- what is printed of a run

-- The event accepts an answer to the request.
abbrev pub accepts_it : Id → ClientEvent → Bool
accepts_it id (Sent other command) = false
accepts_it id (Accepted other answer path) = id_eq other id

-- The request of an event that sent it, where none of the events accepts an answer to it.
abbrev pub open_in : List ClientEvent → ClientEvent → List Id
open_in E (Sent id command) = if list_any (accepts_it id) E then [] else id ∷ []
open_in E (Accepted id answer path) = []

-- The requests without an acceptance, in the order in which they were sent.
abbrev pub unanswered_in : List ClientEvent → List Id
unanswered_in E = flat_map (open_in E) E

-- What is printed of a run: its events, its open requests, and its history with the answers of one store.
abbrev pub printed_of_run : Group → List Record → Printed
printed_of_run g J = record { events = events g J; unanswered = unanswered_in (events g J); history = executed_entries (history g J) }

-- The text of a run.
abbrev pub text : Group → List Record → List ℕ
text g J = text_of_printed (printed_of_run g J)

-- ---- the summary

-- The event is of this sort.
abbrev pub is_event_of : Sort → ClientEvent → Bool
is_event_of sort.Sent (Sent id command) = true
is_event_of sort.Accepted (Accepted id answer path) = true
is_event_of sort.Fast (Accepted id answer Fast) = true
is_event_of sort.Slow (Accepted id answer Slow) = true
is_event_of _ _ = false

-- A name and how many there are.
abbrev pub count_line : List ℕ → ℕ → List ℕ
count_line name count = name ++ (codes " " ++ (decimal count ++ text_newline))

-- How many lines of each sort the text has.
abbrev pub summary_of : Printed → List ℕ
summary_of p =
    count_line (codes "sent") (count_by (is_event_of sort.Sent) p.events)
    ++ (count_line (codes "accepted") (count_by (is_event_of sort.Accepted) p.events)
    ++ (count_line (codes "fast") (count_by (is_event_of sort.Fast) p.events)
    ++ (count_line (codes "slow") (count_by (is_event_of sort.Slow) p.events)
    ++ (count_line (codes "open") (length p.unanswered)
    ++ (count_line (codes "history") (length p.history)
    ++ codes "end\n")))))

-- The summary of a run.
abbrev pub summary : Group → List Record → List ℕ
summary g J = summary_of (printed_of_run g J)
