-- When a text is checked: the tests of each line in the order of the reasons, and the first line that meets one.
use Rattle.std.specs.Prelude.{ℕ, suc, Bool, false, ◌&&◌, not, ◌==◌, if◌then◌else◌, nat_lt, List, [], ◌∷◌, ◌++◌, length, map, take}
use Rattle.std.specs.Prelude.{Option, Some, None, is_none, slice_get, Result, Ok, Err, count_by}
use Rattle.std.specs.List.{list_any, list_all}
use Rattle.std.specs.Option.{option_eq}
use Rattle.std.specs.Str.{bytes_eq}
use Rattle.nz_base.specs.Key.{id_eq}
use Rattle.nz_base.specs.declared.key.Id.{Id}
use Rattle.nz_store.specs.declared.command.Answer.{Answer}
use Rattle.nz_store.specs.Sequence.{answer_after}
use Rattle.nz_script.specs.Bytes.{newline}
use Rattle.nz_machine.specs.declared.journal.Executed.{Executed}
use Rattle.nz_machine.specs.rules.Quorums.{answer_eq}
use Rattle.nz_text.specs.declared.fault.TextFault.{TextFault}
use Rattle.nz_text.specs.declared.fault.TextFault.TheVariants.{Bad, NoMemory}
use Rattle.nz_machine.specs.declared.client_event.ClientEvent.{ClientEvent}
use Rattle.nz_machine.specs.declared.client_event.ClientEvent.TheVariants.{Sent, Accepted}
use Rattle.nz_text.specs.declared.printed.Printed.{Printed}
use Rattle.nz_text.specs.Text.{accepts_it, unanswered_in}
use Rattle.nz_text.specs.Reading.{printed_in}
use Rattle.nz_check.specs.declared.limit.TheConstants.{MAX_PRINTED}
use Rattle.nz_check.specs.declared.verdict.Why.{Why}
use Rattle.nz_check.specs.declared.verdict.Why.TheVariants.{Form, Repeat, Unsent, Missing, Open, Order, Limit}
use Rattle.nz_check.specs.declared.verdict.Why.TheVariants as why
use Rattle.nz_check.specs.declared.verdict.Verdict.{Verdict}
use Rattle.nz_check.specs.declared.verdict.Verdict.TheVariants.{Yes, No}

-- ---- lines

-- The first reason whose test is true.
abbrev pub first_why : List (Bool × Why) → Option Why
first_why [] = None
first_why (test ∷ tests) = if test.0 then Some test.1 else first_why tests

-- What is wrong with each line of one kind, by the lines of this kind above it.
abbrev pub whys : {X : Type 0} → (List X → X → Option Why) → List X → List X → List (Option Why)
whys why_of above [] = []
whys why_of above (x ∷ xs) = why_of above x ∷ whys why_of (above ++ x ∷ []) xs

-- The first line with which something is wrong, where the first of them has this number.
abbrev pub first_line : ℕ → List (Option Why) → Verdict
first_line n [] = Yes
first_line n (None ∷ lines) = first_line (suc n) lines
first_line n (Some reason ∷ lines) = No n reason

-- ---- events and entries

-- The event sends the request.
abbrev pub sends_it : Id → ClientEvent → Bool
sends_it id (Sent other command) = id_eq other id
sends_it id (Accepted other answer path) = false

-- The command with which the request is first sent.
abbrev pub command_sent : Id → List ClientEvent → Option (List ℕ)
command_sent id [] = None
command_sent id (Sent other command ∷ events) = if id_eq other id then Some command else command_sent id events
command_sent id (Accepted other answer path ∷ events) = command_sent id events

-- The requests that are accepted before the request is first sent.
abbrev pub accepted_before : Id → List ClientEvent → List Id
accepted_before id [] = []
accepted_before id (Sent other command ∷ events) = if id_eq other id then [] else accepted_before id events
accepted_before id (Accepted other answer path ∷ events) = other ∷ accepted_before id events

-- The entries have one of the request.
abbrev pub has_executed : Id → List Executed → Bool
has_executed id entries = list_any (λ x. id_eq id x.id) entries

-- The answer to the first entry of the request.
abbrev pub answer_at : Id → List Executed → Option Answer
answer_at id [] = None
answer_at id (x ∷ entries) = if id_eq id x.id then Some x.answer else answer_at id entries

-- The commands of the entries, in order.
abbrev pub commands_of : List Executed → List (List ℕ)
commands_of entries = map (λ x. x.command) entries

-- ---- the tests of each line

-- What is wrong with an event, by the events above it.
abbrev pub event_why : Printed → List ClientEvent → ClientEvent → Option Why
event_why p above (Sent id command) = first_why ((list_any (sends_it id) above, Repeat) ∷ [])
event_why p above (Accepted id answer path) = first_why
    ((list_any (accepts_it id) above, Repeat)
    ∷ (not (list_any (sends_it id) above), Unsent)
    ∷ (is_none (answer_at id p.history), Missing)
    ∷ (not (option_eq answer_eq (answer_at id p.history) (Some answer)), why.Answer)
    ∷ [])

-- What is wrong with an open line, by the open lines above it.
abbrev pub open_why : Printed → List Id → Id → Option Why
open_why p above id = first_why ((not (option_eq id_eq (slice_get (unanswered_in p.events) (length above)) (Some id)), Open) ∷ [])

-- Fewer open lines are there than requests without acceptance.
abbrev pub lacks_open : Printed → Bool
lacks_open p = nat_lt (length p.unanswered) (length (unanswered_in p.events))

-- What is wrong with an entry of the history, by the entries above it.
abbrev pub at_why : Printed → List Executed → Executed → Option Why
at_why p above x = first_why
    ((has_executed x.id above, Repeat)
    ∷ (not (option_eq bytes_eq (command_sent x.id p.events) (Some x.command)), Unsent)
    ∷ ((length above == 0) && lacks_open p, Open)
    ∷ (not (list_all (λ id. has_executed id above) (accepted_before x.id p.events)), Order)
    ∷ (not (answer_eq (answer_after (commands_of above) x.command) x.answer), why.Answer)
    ∷ [])

-- What is wrong with the line of the end.
abbrev pub end_why : Printed → Option Why
end_why p = first_why (((length p.history == 0) && lacks_open p, Open) ∷ [])

-- ---- the whole

-- Whether what is printed is that of a run with one history, or the first line that is not.
abbrev pub verdict_of : Printed → Verdict
verdict_of p =
    first_line 1
    (whys (event_why p) [] p.events
    ++ (whys (open_why p) [] p.unanswered
    ++ (whys (at_why p) [] p.history
    ++ end_why p ∷ [])))

-- The verdict on what was read, or the first line that is not of the grammar.
abbrev pub judged : Result Printed TextFault → Verdict
judged (Ok p) = verdict_of p
judged (Err (Bad line)) = No line Form
judged (Err NoMemory) = No 0 Form

-- The line of the first byte beyond the limit.
abbrev pub line_of_limit : List ℕ → ℕ
line_of_limit bytes = suc (count_by (λ byte. byte == newline) (take MAX_PRINTED bytes))

-- The verdict on a text.
unfoldable pub checked : List ℕ → Verdict
checked bytes = if nat_lt MAX_PRINTED (length bytes) then No (line_of_limit bytes) Limit else judged (printed_in bytes)
