-- What is printed of a run, by the events that were read off its records.
use Rattle.std.proofs.Common.{◌≡◌, List, ap, ◌∙◌}
use Rattle.nz_base.specs.declared.key.Id.{Id}
use Rattle.nz_machine.specs.declared.client_event.EventAt.{EventAt}
use Rattle.nz_machine.specs.declared.event.Record.{Record}
use Rattle.nz_machine.specs.declared.journal.Executed.{Executed}
use Rattle.nz_machine.specs.rules.State.{Group}
use Rattle.nz_machine.specs.runs.Events.{events}
use Rattle.nz_machine.specs.runs.History.{history}
use Rattle.nz_machine.specs.journals.EventNotes.{events_at, events_alone}
use Rattle.nz_machine.specs.journals.Journals.{executed_entries}
use Rattle.nz_machine.proofs.journals.NotedEvents.{events_are_read}
use Rattle.nz_text.specs.Text.{unanswered_in, printed_of_run}

pub printed_is : (g : Group) (J : List Record) (E : List EventAt) (unanswered : List Id) (H : List Executed) → E ≡ events_at g J
    → H ≡ executed_entries (history g J) → unanswered ≡ unanswered_in (events_alone E)
    → record { events = events_alone E; unanswered = unanswered; history = H } ≡ printed_of_run g J
printed_is g J E unanswered H is found left =
    let all : events_alone E ≡ events g J = ap events_alone is ∙ events_are_read g J in
    λ i. record { events = all i; unanswered = (left ∙ ap unanswered_in all) i; history = found i }
