-- What a checked text says, in the words of the machine.
use Rattle.std.specs.Prelude.{◌≡◌, ◌≤◌, ℕ, List, length, map, Ok}
use Rattle.nz_base.specs.declared.key.Id.{Id}
use Rattle.nz_base.specs.declared.key.Entry.{Entry}
use Rattle.nz_store.specs.declared.command.Answer.{Answer}
use Rattle.nz_store.specs.Sequence.{replies}
use Rattle.nz_msg.specs.declared.message.Path.{Path}
use Rattle.nz_machine.specs.declared.journal.Executed.{Executed}
use Rattle.nz_machine.specs.runs.World.{Has}
use Rattle.nz_machine.specs.declared.client_event.ClientEvent.{ClientEvent}
use Rattle.nz_machine.specs.declared.client_event.ClientEvent.TheVariants.{Sent, Accepted}
use Rattle.nz_machine.specs.runs.OneHistory.{Precedes, Lin}
use Rattle.nz_text.specs.declared.printed.Printed.{Printed}
use Rattle.nz_text.specs.Text.{unanswered_in}
use Rattle.nz_text.specs.Reading.{printed_in}
use Rattle.nz_check.specs.declared.limit.TheConstants.{MAX_PRINTED}
use Rattle.nz_check.specs.Checked.{commands_of}

-- The entry of a line, as a log has it. A text has no deadlines, and one history reads none.
abbrev pub entry_of : Executed → Entry
entry_of x = record { key = record { deadline = 0; client = x.id.client; num = x.id.num }; command = x.command }

-- The history, as a log has it.
abbrev pub entries_of : List Executed → List Entry
entries_of history = map entry_of history

-- In these events each request is sent once and accepted at most once, after its sending.
pub record AreInForm (E : List ClientEvent) : Type 0 where
  pub sent : (id : Id) (x y : List ℕ) → ¬ Precedes E (Sent id x) (Sent id y)
  pub accepted : (id : Id) (a b : Answer) (p q : Path) → ¬ Precedes E (Accepted id a p) (Accepted id b q)
  pub in_order : (id : Id) (a : Answer) (p : Path) → Has E (Accepted id a p) → (command : List ℕ) × Precedes E (Sent id command) (Accepted id a p)

-- The events are in form, the open lines are the requests without acceptance, the answers are those of the one store
-- that executes the history, and events and history are one history.
pub record IsChecked (p : Printed) : Type 0 where
  pub in_form : AreInForm p.events
  pub open_lines : p.unanswered ≡ unanswered_in p.events
  pub answers : map (λ x. x.answer) p.history ≡ replies (commands_of p.history)
  pub one_history : Lin p.events (entries_of p.history)

-- The text is within the limit and of the grammar, and what it says is checked.
pub record IsCheckedText (bytes : List ℕ) : Type 0 where
  pub within : length bytes ≤ MAX_PRINTED
  pub printed : Printed
  pub said : printed_in bytes ≡ Ok printed
  pub checked : IsChecked printed
