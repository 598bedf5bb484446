-- What a text says, line by line, or its first bad line.
use Rattle.std.specs.Prelude.{ℕ, ◌+◌, ◌-◌, ◌^◌, Bool, ◌&&◌, nat_le, ◌==◌, if◌then◌else◌, List, []}
use Rattle.std.specs.Prelude.{◌∷◌, ◌++◌, length, Option, Some, None, Result, Ok, Err, codes}
use Rattle.std.specs.Str.{bytes_eq}
use Rattle.nz_base.specs.declared.key.Id.{Id}
use Rattle.nz_store.specs.declared.command.Answer.{Answer}
use Rattle.nz_store.specs.declared.command.Answer.TheVariants.{Done, Value, Absent, Differs}
use Rattle.nz_store.specs.Grammar.{spelling}
use Rattle.nz_store.specs.Reading.{is_value_text}
use Rattle.nz_msg.specs.declared.message.Path.{Path}
use Rattle.nz_msg.specs.declared.message.Path.TheVariants.{Fast, Slow}
use Rattle.nz_script.specs.Bytes.{space, number_of, onto_first, lines_in, tail_in}
use Rattle.nz_script.specs.Commands.{command_first}
use Rattle.nz_script.specs.Forms.{◌>>=◌}
use Rattle.nz_machine.specs.declared.journal.Executed.{Executed}
use Rattle.nz_text.specs.declared.draft.Draft.{Draft}
use Rattle.nz_text.specs.declared.draft.Stage.{Stage}
use Rattle.nz_text.specs.declared.draft.Stage.TheVariants as stage
use Rattle.nz_text.specs.declared.fault.TextFault.{TextFault}
use Rattle.nz_text.specs.declared.fault.TextFault.TheVariants.{Bad}
use Rattle.nz_text.specs.declared.line.Line.{Line}
use Rattle.nz_text.specs.declared.line.Line.TheVariants as line
use Rattle.nz_machine.specs.declared.client_event.ClientEvent.TheVariants.{Sent, Accepted}
use Rattle.nz_text.specs.declared.printed.Printed.{Printed}

-- ---- words

-- What is between the spaces of a line: two spaces have an empty word between them.
abbrev pub pieces_in : List ℕ → List (List ℕ)
pieces_in [] = [] ∷ []
pieces_in (x ∷ xs) = if x == space then [] ∷ pieces_in xs else onto_first x (pieces_in xs)

-- A number of 32 bits.
abbrev pub number_in_digits : List ℕ → Option ℕ
number_in_digits word = number_of word >>= λ n. if nat_le n (2 ^ 32 - 1) then Some n else None

-- `c`, and the client's number.
abbrev pub client_in : List ℕ → Option ℕ
client_in [] = None
client_in (letter ∷ digits) = if letter == 99 then number_in_digits digits else None

-- The id that two words are.
abbrev pub id_of_words : List ℕ → List ℕ → Option Id
id_of_words client num = client_in client >>= λ c. number_in_digits num >>= λ n. Some (record { client = c; num = n })

-- The id whose two words come first, and the words after them.
unfoldable pub id_first : List (List ℕ) → Option (Id × List (List ℕ))
id_first (client ∷ num ∷ more) = id_of_words client num >>= λ id. Some (id, more)
id_first _ = None

-- The value that comes first, and the words after it.
abbrev pub value_first : List (List ℕ) → Option (Answer × List (List ℕ))
value_first [] = None
value_first (value ∷ more) = if is_value_text value then Some (Value value, more) else None

-- The answer whose words come first, and the words after it.
unfoldable pub answer_first : List (List ℕ) → Option (Answer × List (List ℕ))
answer_first [] = None
answer_first (word ∷ more) =
    if bytes_eq word (codes "done") then Some (Done, more)
    else (if bytes_eq word (codes "value") then value_first more
    else (if bytes_eq word (codes "absent") then Some (Absent, more)
    else (if bytes_eq word (codes "differs") then Some (Differs, more) else None)))

-- ---- lines, by the words after the first one

-- The one word is a path.
unfoldable pub path_of : List (List ℕ) → Option Path
path_of (word ∷ []) = if bytes_eq word (codes "fast") then Some Fast else (if bytes_eq word (codes "slow") then Some Slow else None)
path_of _ = None

-- The thing, where nothing follows it.
abbrev pub alone : {X : Type 0} → X → List (List ℕ) → Option X
alone x [] = Some x
alone x (word ∷ more) = None

-- A command and no more.
abbrev pub send_of : Id → List (List ℕ) → Option Line
send_of id words = command_first words >>= λ c. alone (line.Event (Sent id (spelling c.0))) c.1

-- An answer and a path.
abbrev pub accept_of : Id → List (List ℕ) → Option Line
accept_of id words = answer_first words >>= λ a. path_of a.1 >>= λ path. Some (line.Event (Accepted id a.0 path))

-- The answer after the word `gives`.
unfoldable pub answer_in_words : List (List ℕ) → Option Answer
answer_in_words [] = None
answer_in_words (word ∷ more) = if bytes_eq word (codes "gives") then (answer_first more >>= λ a. alone a.0 a.1) else None

-- A command, and after `gives` its answer.
abbrev pub executed_of : Id → List (List ℕ) → Option Executed
executed_of id words = command_first words >>= λ c. answer_in_words c.1 >>= λ answer. Some (record { id = id; command = spelling c.0; answer = answer })

-- The words after `send`, `accept`, `open` and `at`.
abbrev pub send_in_words : List (List ℕ) → Option Line
send_in_words words = id_first words >>= λ i. send_of i.0 i.1

-- An `accept` line of these words.
abbrev pub accept_in_words : List (List ℕ) → Option Line
accept_in_words words = id_first words >>= λ i. accept_of i.0 i.1

-- An `open` line of these words.
abbrev pub open_in_words : List (List ℕ) → Option Line
open_in_words words = id_first words >>= λ i. alone (line.Open i.0) i.1

-- An `at` line of these words.
unfoldable pub at_in_words : List (List ℕ) → Option Line
at_in_words [] = None
at_in_words (place ∷ words) = number_of place >>= λ n. id_first words >>= λ i. executed_of i.0 i.1 >>= λ x. Some (line.At n x)

-- What the words of a line say.
unfoldable pub line_in_words : List (List ℕ) → Option Line
line_in_words [] = None
line_in_words (first ∷ words) =
    if bytes_eq first (codes "send") then send_in_words words
    else (if bytes_eq first (codes "accept") then accept_in_words words
    else (if bytes_eq first (codes "open") then open_in_words words
    else (if bytes_eq first (codes "at") then at_in_words words
    else (if bytes_eq first (codes "end") then alone line.End words else None))))

-- ---- the order of lines

-- How far a text has come.
abbrev pub stage_rank : Stage → ℕ
stage_rank stage.Events = 0
stage_rank stage.Opens = 1
stage_rank stage.History = 2
stage_rank stage.Ended = 3

-- The line was good, and what was read with it; or it was not.
abbrev pub draft_if_good : Bool → Draft → Option Draft
draft_if_good good d = if good then Some d else None

-- What was read with the line, where it may come here: events, then open requests, then the history with its places
-- from 1, then the end.
abbrev pub with_line : Draft → Line → Option Draft
with_line d (line.Event e) = draft_if_good (stage_rank d.stage == 0) (record d { printed = record d.printed { events = d.printed.events ++ e ∷ [] } })
with_line d (line.Open id) =
    draft_if_good (nat_le (stage_rank d.stage) 1)
    (record { stage = stage.Opens; printed = record d.printed { unanswered = d.printed.unanswered ++ id ∷ [] } })
with_line d (line.At place x) =
    draft_if_good (nat_le (stage_rank d.stage) 2 && (place == length d.printed.history + 1))
    (record { stage = stage.History; printed = record d.printed { history = d.printed.history ++ x ∷ [] } })
with_line d line.End = draft_if_good (nat_le (stage_rank d.stage) 2) (record d { stage = stage.Ended })

-- What was read with these bytes as a line, if they are one that may come here.
unfoldable pub draft_after_bytes : Draft → List ℕ → Option Draft
draft_after_bytes d bytes = line_in_words (pieces_in bytes) >>= λ l. with_line d l

-- Before the first line.
abbrev pub empty_draft : Draft
empty_draft = record { stage = stage.Events; printed = record { events = []; unanswered = []; history = [] } }

-- After the last newline: nothing is there, and the end was read.
abbrev pub printed_at_end : List ℕ → ℕ → Draft → Result Printed TextFault
printed_at_end tail n d = if (length tail == 0) && (stage_rank d.stage == 3) then Ok d.printed else Err (Bad n)

-- The answer to the lines after, where line n is not bad.
abbrev pub if_read : ℕ → (Draft → Result Printed TextFault) → Option Draft → Result Printed TextFault
if_read n further None = Err (Bad n)
if_read n further (Some next) = further next

-- The lines from line n on, and what follows the last newline.
abbrev pub printed_from : List ℕ → ℕ → Draft → List (List ℕ) → Result Printed TextFault
printed_from tail n d [] = printed_at_end tail n d
printed_from tail n d (bytes ∷ lines) = if_read n (λ next. printed_from tail (n + 1) next lines) (draft_after_bytes d bytes)

-- What the text says, or its first bad line.
unfoldable pub printed_in : List ℕ → Result Printed TextFault
printed_in bytes = printed_from (tail_in bytes) 1 empty_draft (lines_in bytes)
