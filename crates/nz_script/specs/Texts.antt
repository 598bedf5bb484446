-- The one text of a scenario: its lines, each in its one spelling.
use Rattle.std.specs.Prelude.{ℕ, suc, ◌+◌, Bool, true, false, ◌==◌, if◌then◌else◌, List, [], ◌∷◌, ◌++◌, map, Option, Some, None, codes, ℤ, pos, negsuc}
use Rattle.std.specs.Fmt.{decimal}
use Rattle.nz_base.specs.declared.actor.Actor.{Actor}
use Rattle.nz_base.specs.declared.actor.Actor.TheVariants.{Replica, Proxy, Client}
use Rattle.nz_base.specs.declared.scenario.Request.{Request}
use Rattle.nz_base.specs.declared.scenario.Skew.{Skew}
use Rattle.nz_base.specs.declared.scenario.Fault.{Fault}
use Rattle.nz_base.specs.declared.scenario.Fault.TheVariants as fault
use Rattle.nz_base.specs.declared.scenario.Scenario.{Scenario}
use Rattle.nz_store.specs.declared.command.Command.{Command}
use Rattle.nz_store.specs.declared.command.Command.TheVariants as command
use Rattle.nz_store.specs.Reading.{command_of}
use Rattle.nz_script.specs.declared.line_forms.Head.TheVariants as head
use Rattle.nz_script.specs.declared.line_forms.Ask.TheVariants.{Put, Get, Del, Cas}
use Rattle.nz_script.specs.declared.line_forms.Mishap.TheVariants as mishap
use Rattle.nz_script.specs.declared.line_forms.Verb.{Verb}
use Rattle.nz_script.specs.declared.line_forms.Verb.TheVariants as verb
use Rattle.nz_script.specs.declared.word.Word.{Word}
use Rattle.nz_script.specs.declared.word.Word.TheVariants as word
use Rattle.nz_script.specs.declared.line.Line.{Line}
use Rattle.nz_script.specs.Bytes.{space, newline, minus}
use Rattle.nz_script.specs.Shapes.{verb_word}
use Rattle.nz_script.specs.Messages.{name_of}
use Rattle.nz_script.specs.Lines.{a_line}

-- ---- how a line is spelled

-- A letter and the number.
abbrev pub actor_text : Actor → List ℕ
actor_text (Replica r) = 114 ∷ decimal r
actor_text (Proxy p) = 112 ∷ decimal p
actor_text (Client c) = 99 ∷ decimal c

-- A number of units, with `-` where the clock is behind.
abbrev pub units_text : Bool → ℕ → List ℕ
units_text back n = if back then minus ∷ decimal n else decimal n

-- The name of a kind of message.
abbrev pub kind_text : Option ℕ → List ℕ
kind_text None = []
kind_text (Some kind) = name_of kind

-- The one spelling of a word.
abbrev pub word_text : Word → List ℕ
word_text (word.Number n) = decimal n
word_text (word.Units back n) = units_text back n
word_text (word.Named a) = actor_text a
word_text word.Everyone = codes "*"
word_text (word.Kind kind) = kind_text kind
word_text (word.Text text) = text
word_text word.Nothing = codes "-"

-- Each word with one space before it.
abbrev pub words_text : List Word → List ℕ
words_text [] = []
words_text (w ∷ words) = space ∷ (word_text w ++ words_text words)

-- The one spelling of a line, without its newline.
abbrev pub line_text : Line → List ℕ
line_text line = verb_word line.verb ++ words_text line.words

-- Each line with its newline.
abbrev pub text_of_lines : List Line → List ℕ
text_of_lines [] = []
text_of_lines (line ∷ lines) = line_text line ++ newline ∷ text_of_lines lines

-- ---- which lines a scenario has

-- A line of one number.
abbrev pub number_line : Verb → ℕ → Line
number_line v n = a_line v (word.Number n ∷ [])

-- A window of 1 is that of version 1, which has no line for it.
abbrev pub version_of : ℕ → ℕ
version_of window = if window == 1 then 1 else 2

-- Version 2 says its window.
abbrev pub window_lines : ℕ → List Line
window_lines window = if window == 1 then [] else number_line (verb.Head head.Window) window ∷ []

-- The lines of the head, in their order.
abbrev pub head_lines : Scenario → List Line
head_lines s =
    number_line (verb.Head head.Version) (version_of s.window) ∷
    number_line (verb.Head head.Faulty) s.cluster ∷
    number_line (verb.Head head.Proxies) s.proxies ∷
    number_line (verb.Head head.Clients) s.clients ∷
    number_line (verb.Head head.Ticks) s.ticks ∷ window_lines s.window

-- A skew as a word.
abbrev pub units_of : ℤ → Word
units_of (pos n) = word.Units false n
units_of (negsuc n) = word.Units true (suc n)

-- The line of a skew.
abbrev pub skew_line : Skew → Line
skew_line s = a_line verb.Skew (word.Named s.actor ∷ units_of s.units ∷ [])

-- A value or none as a word.
abbrev pub choice_of : Option (List ℕ) → Word
choice_of None = word.Nothing
choice_of (Some value) = word.Text value

-- The line of a command.
abbrev pub command_line : Command → Line
command_line (command.Put key value) = a_line (verb.Ask Put) (word.Text key ∷ word.Text value ∷ [])
command_line (command.Get key) = a_line (verb.Ask Get) (word.Text key ∷ [])
command_line (command.Del key) = a_line (verb.Ask Del) (word.Text key ∷ [])
command_line (command.Cas key old new) = a_line (verb.Ask Cas) (word.Text key ∷ choice_of old ∷ choice_of new ∷ [])

-- A wait is written exactly where it is above 0.
abbrev pub wait_lines : ℕ → List Line
wait_lines n = if n == 0 then [] else number_line verb.Wait n ∷ []

-- The line of a command, if the bytes were one.
abbrev pub lines_of_command : Option Command → List Line
lines_of_command None = []
lines_of_command (Some c) = command_line c ∷ []

-- The lines of a request: its wait, if it has one, and its command.
abbrev pub request_lines : Request → List Line
request_lines r = wait_lines r.wait ++ lines_of_command (command_of r.command)

-- The lines of a client's requests, with `end`.
abbrev pub script_lines : List Request → List Line
script_lines [] = a_line verb.End [] ∷ []
script_lines (r ∷ requests) = request_lines r ++ script_lines requests

-- The blocks of the clients from this one on.
abbrev pub scripts_lines : ℕ → List (List Request) → List Line
scripts_lines client [] = []
scripts_lines client (script ∷ scripts) = a_line verb.Client (word.Named (Client client) ∷ []) ∷ (script_lines script ++ scripts_lines (client + 1) scripts)

-- An actor or everyone as a word.
abbrev pub actors_word : Option Actor → Word
actors_word None = word.Everyone
actors_word (Some a) = word.Named a

-- The line of a fault.
abbrev pub fault_line : Fault → Line
fault_line (fault.Drop from to kind count) = a_line (verb.Mishap mishap.Drop) (word.Named from ∷ word.Named to ∷ word.Kind (Some kind) ∷ word.Number count ∷ [])
fault_line (fault.Hold from to kind count by) =
    a_line (verb.Mishap mishap.Hold) (word.Named from ∷ word.Named to ∷ word.Kind (Some kind) ∷ word.Number count ∷ word.Number by ∷ [])
fault_line (fault.Twice from to kind count by) =
    a_line (verb.Mishap mishap.Twice) (word.Named from ∷ word.Named to ∷ word.Kind (Some kind) ∷ word.Number count ∷ word.Number by ∷ [])
fault_line (fault.Cut from to kind count keep) =
    a_line (verb.Mishap mishap.Cut) (word.Named from ∷ word.Named to ∷ word.Kind (Some kind) ∷ word.Number count ∷ word.Number keep ∷ [])
fault_line (fault.Block from to first last) = a_line (verb.Mishap mishap.Block) (actors_word from ∷ actors_word to ∷ word.Number first ∷ word.Number last ∷ [])
fault_line (fault.Crash a tick) = a_line (verb.Mishap mishap.Crash) (word.Named a ∷ word.Number tick ∷ [])
fault_line (fault.Restart a tick) = a_line (verb.Mishap mishap.Restart) (word.Named a ∷ word.Number tick ∷ [])
fault_line (fault.Alarm a tick) = a_line (verb.Mishap mishap.Alarm) (word.Named a ∷ word.Number tick ∷ [])

-- The head, the skews, the blocks of the clients, the faults, and the last line.
abbrev pub lines_of : Scenario → List Line
lines_of s = head_lines s ++ (map skew_line s.skews ++ (scripts_lines 0 s.scripts ++ (map fault_line s.faults ++ a_line verb.Done [] ∷ [])))

-- The text of a scenario.
unfoldable pub text_of : Scenario → List ℕ
text_of s = text_of_lines (lines_of s)
