-- What the passes over a text note.
use Rattle.std.specs.Prelude.{◌≡◌, ℕ, suc, Bool, true, false, max, List, [], ◌∷◌, ◌++◌, length, Option, Some, None, slice_get, if◌then◌else◌}
use Rattle.std.specs.List.{list_any}
use Rattle.std.specs.Option.{option_map}
use Rattle.std.specs.Str.{bytes_eq}
use Rattle.indexmap.specs.IndexMap.{get}
use Rattle.nz_base.specs.Key.{id_eq}
use Rattle.nz_base.specs.declared.key.Id.{Id}
use Rattle.nz_machine.specs.declared.journal.Executed.{Executed}
use Rattle.nz_machine.specs.declared.client_event.ClientEvent.{ClientEvent}
use Rattle.nz_machine.specs.declared.client_event.ClientEvent.TheVariants.{Sent, Accepted}
use Rattle.nz_text.specs.Text.{accepts_it}
use Rattle.nz_check.specs.declared.events.Noted.{Noted}
use Rattle.nz_check.specs.declared.events.SentRequest.{SentRequest}
use Rattle.nz_text.specs.declared.printed.Printed.{Printed}
use Rattle.nz_check.specs.declared.verdict.Why.{Why}
use Rattle.nz_check.specs.Checked.{sends_it, accepted_before, event_why}

-- The place of the first entry of the request, where the first of these entries has this place.
abbrev pub first_place : ℕ → Id → List Executed → Option ℕ
first_place n id [] = None
first_place n id (x ∷ entries) = if id_eq id x.id then Some n else first_place (suc n) id entries

-- What the index has of each request is the place of its first entry.
abbrev pub AreFirstPlaces : List Executed → (Id → Option ℕ) → Type 0
AreFirstPlaces history place_in = (id : Id) → place_in id ≡ first_place 0 id history

-- How many entries it takes to have this place in them; more than there are where there is none.
abbrev pub reach_of_place : ℕ → Option ℕ → ℕ
reach_of_place most None = suc most
reach_of_place most (Some place) = suc place

-- How many entries of the history it takes to have all these requests.
abbrev pub reach_of : List Executed → List Id → ℕ
reach_of history [] = 0
reach_of history (id ∷ ids) = max (reach_of_place (length history) (first_place 0 id history)) (reach_of history ids)

-- The event sends the command.
abbrev pub asks_for : List ℕ → ClientEvent → Bool
asks_for command (Sent id sent) = bytes_eq sent command
asks_for command (Accepted id answer path) = false

-- The event, if there is one, sends the command.
abbrev pub asks_where_there : List ℕ → Option ClientEvent → Bool
asks_where_there command None = false
asks_where_there command (Some e) = asks_for command e

-- The place of the event that first sends the request, where the first of these events has this place.
abbrev pub sent_place : ℕ → Id → List ClientEvent → Option ℕ
sent_place n id [] = None
sent_place n id (Sent other command ∷ events) = if id_eq other id then Some n else sent_place (suc n) id events
sent_place n id (Accepted other answer path ∷ events) = sent_place (suc n) id events

-- The event at the place sends the command.
abbrev pub is_sent_at : List ClientEvent → ℕ → List ℕ → Bool
is_sent_at events place command = asks_where_there command (slice_get events place)

-- The requests that are accepted.
abbrev pub accepted_ids : List ClientEvent → List Id
accepted_ids [] = []
accepted_ids (Sent id command ∷ events) = accepted_ids events
accepted_ids (Accepted id answer path ∷ events) = id ∷ accepted_ids events

-- What is noted of a request.
abbrev pub sent_of : List Executed → List ClientEvent → Id → Option SentRequest
sent_of history events id =
    option_map
    (λ place. record { place = place; reach = reach_of history (accepted_before id events); accepted = list_any (accepts_it id) events })
    (sent_place 0 id events)

-- What is noted of the events.
pub record AreNoted (history : List Executed) (events : List ClientEvent) (noted : Noted) : Type 0 where
  pub each : (id : Id) → get id_eq noted.sent id ≡ sent_of history events id
  pub reach : noted.reach ≡ reach_of history (accepted_ids events)
  -- What is accepted was sent.
  pub asked : (id : Id) → list_any (accepts_it id) events ≡ true → list_any (sends_it id) events ≡ true

-- What is wrong with the event was found, and where nothing is, it is noted with those above it.
pub record IsTaken (p : Printed) (above : List ClientEvent) (e : ClientEvent) (reason : Option Why) (now : Noted) : Type 0 where
  pub found : reason ≡ event_why p above e
  pub noted : reason ≡ None → AreNoted p.history (above ++ e ∷ []) now
