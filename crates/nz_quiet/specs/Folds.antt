-- One tick of a run as a fold over each actor's own events.
use Rattle.std.specs.Prelude.{◌≡◌, ℕ, zero, suc, true, false, ◌&&◌, map, reverse, List, [], ◌∷◌, ◌++◌, if◌then◌else◌}
use Rattle.std.specs.List.{AllByRecursion}
use Rattle.nz_base.specs.Actor.{actor_eq, HasAddress}
use Rattle.nz_base.specs.declared.actor.Actor.{Actor}
use Rattle.nz_base.specs.declared.scenario.Scenario.{Scenario}
use Rattle.nz_msg.specs.declared.message.Message.{Message}
use Rattle.nz_msg.specs.Messages.{Fits}
use Rattle.nz_machine.specs.declared.event.Event.{Event}
use Rattle.nz_machine.specs.declared.event.Event.TheVariants.{Deliver}
use Rattle.nz_machine.specs.declared.event.Parcel.{Parcel}
use Rattle.nz_machine.specs.declared.event.Record.{Record}
use Rattle.nz_machine.specs.declared.journal.Item.{Item}
use Rattle.nz_machine.specs.rules.State.{State, Group, Out}
use Rattle.nz_machine.specs.rules.Step.{is_in_cluster, is_sized, message_vector, message_step, tick_step, event_step, parcel}
use Rattle.nz_machine.specs.runs.World.{state_after}
use Rattle.nz_machine.specs.runs.Schedule.{item, item_of, group_of, InOrderTo}

-- The delivery of a parcel.
abbrev pub delivery : Parcel → Item
delivery p = item p.to (Deliver p)

-- What some records sent, the oldest first.
abbrev pub sent_by : List Record → List Parcel
sent_by [] = []
sent_by (r ∷ J) = sent_by J ++ r.sends

-- The events of an actor among some items.
abbrev pub events_for : Actor → List Item → List Event
events_for a [] = []
events_for a (i ∷ is) = if actor_eq i.actor a then i.event ∷ events_for a is else events_for a is

-- An actor's state after some events, the oldest first.
unfoldable pub state_from : Group → (a : Actor) → State a → List Event → State a
state_from g a s [] = s
state_from g a s (e ∷ es) = state_from g a (event_step g a s e).0 es

-- What an actor sends on some events, the oldest first.
unfoldable pub outs_from : Group → (a : Actor) → State a → List Event → List Out
outs_from g a s [] = []
outs_from g a s (e ∷ es) = (event_step g a s e).1 ++ outs_from g a (event_step g a s e).0 es

-- The events of an actor in the records of a tick, the newest first.
abbrev pub events_in : Actor → List Record → List Event
events_in a now = events_for a (map item_of (reverse now))

-- What the records of a tick send, the oldest first: who sends it, and what.
abbrev pub flight_of : Group → List Record → List Record → List (Actor × Out)
flight_of g [] older = []
flight_of g (r ∷ now) older =
    flight_of g now older ++ map (λ o. (r.actor, o)) (event_step g r.actor (state_after g r.actor (now ++ older)) r.event).1

-- A message in flight as a parcel.
abbrev pub posted : Actor × Out → Parcel
posted x = parcel x.0 x.1

-- What an actor sends of what is in flight.
abbrev pub outs_of : Actor → List (Actor × Out) → List Out
outs_of a [] = []
outs_of a (x ∷ xs) = if actor_eq x.0 a then x.1 ∷ outs_of a xs else outs_of a xs

-- The messages in flight to an actor, each with its sender.
abbrev pub heard_by : Actor → List (Actor × Out) → List (Actor × Message)
heard_by a [] = []
heard_by a (x ∷ xs) = if actor_eq x.1.0 a then (x.0, x.1.1) ∷ heard_by a xs else heard_by a xs

-- The state of an actor after some messages.
unfoldable pub state_heard : Group → (a : Actor) → State a → List (Actor × Message) → State a
state_heard g a s [] = s
state_heard g a s (h ∷ hs) = state_heard g a (message_step g a s h.0 h.1).0 hs

-- What an actor sends on some messages.
unfoldable pub outs_heard : Group → (a : Actor) → State a → List (Actor × Message) → List Out
outs_heard g a s [] = []
outs_heard g a s (h ∷ hs) = (message_step g a s h.0 h.1).1 ++ outs_heard g a (message_step g a s h.0 h.1).0 hs

-- The actor reads what is in flight, where it is for it: a frame can carry it, and its sender is another of the cluster.
pub record IsReadable (f : ℕ) (a : Actor) (x : Actor × Out) : Type 0 where
  pub sender : HasAddress x.0
  pub receiver : HasAddress x.1.0
  pub message : Fits x.1.1
  pub other : actor_eq x.0 a ≡ false
  pub counts : (is_in_cluster f x.0 && is_sized f (message_vector x.1.1)) ≡ true

-- The actor reads all that is in flight to it.
abbrev pub AreReadable : ℕ → Actor → List (Actor × Out) → Type 0
AreReadable f a xs = AllByRecursion (λ x. actor_eq x.1.0 a ≡ true → IsReadable f a x) xs

-- An actor's state after a tick, and what it sends in it: it has its clock, and then hears what was in flight to it.
pub record IsHeardTick (g : Group) (a : Actor) (clock : ℕ) (flight : List (Actor × Out)) (before after : State a) (outs : List Out) : Type 0 where
  pub state : after ≡ state_heard g a (tick_step g a before clock).0 (heard_by a flight)
  pub sends : outs ≡ (tick_step g a before clock).1 ++ outs_heard g a (tick_step g a before clock).0 (heard_by a flight)

-- What is in flight after the ticks of a run up to this one.
abbrev pub flight_in : (s : Scenario) (t : ℕ) (J : List Record) → InOrderTo s t J → List (Actor × Out)
flight_in s zero J order = []
flight_in s (suc t) J (now, (older, order)) = flight_of (group_of s) now older
