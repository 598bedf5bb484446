-- The events of a run's clients, each with its place and tick, and notes of them.
use Rattle.std.specs.Prelude.{◌≡◌, ℕ, List, [], ◌∷◌, ◌++◌, length, map}
use Rattle.nz_machine.specs.declared.client_event.EventAt.{EventAt}
use Rattle.nz_machine.specs.declared.event.Record.{Record}
use Rattle.nz_machine.specs.declared.event_notes.Notes.{Notes}
use Rattle.nz_machine.specs.rules.State.{Group}
use Rattle.nz_machine.specs.declared.client_event.ClientEvent.{ClientEvent}
use Rattle.nz_machine.specs.runs.Events.{client_events}
use Rattle.nz_machine.specs.journals.ClientProgress.{AreAfter}

-- The events of a record at this place and of this tick.
abbrev pub all_at : ℕ → ℕ → List ClientEvent → List EventAt
all_at place tick E = map (λ e. record { place = place; tick = tick; event = e }) E

-- The events of a run, the oldest first, each with the place of its record, counted from 0, and its tick.
abbrev pub events_at : Group → List Record → List EventAt
events_at g [] = []
events_at g (r ∷ J) = events_at g J ++ all_at (length J) r.tick (client_events g r.actor r J)

-- The events without their places and ticks.
abbrev pub events_alone : List EventAt → List ClientEvent
events_alone E = map (λ x. x.event) E

-- The notes have read the records up to here.
pub record AreNoted (g : Group) (J : List Record) (n : Notes) : Type 0 where
  pub after : AreAfter g J n.clients
  pub all : n.events ≡ events_at g J
