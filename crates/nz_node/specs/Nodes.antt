-- What a node does on what it reads.
use Rattle.std.specs.Prelude.{ℕ, ◌≡◌, List, [], ◌∷◌, ◌++◌, take, flat_map, Option, Some, None, IfSome}
use Rattle.std.specs.List.{AllByRecursion}
use Rattle.nz_base.specs.Actor.{actor_at}
use Rattle.nz_base.specs.declared.actor.Actor.{Actor}
use Rattle.nz_edge.specs.Exposed.{Loses, Gains}
use Rattle.nz_frame.specs.Refusal.{sender, receiver}
use Rattle.nz_lane.specs.declared.item.Item.{Item}
use Rattle.nz_lane.specs.declared.item.Item.TheVariants as items
use Rattle.nz_lane.specs.Items.{spelling, IsValidItem}
use Rattle.nz_machine.specs.declared.event.Event.{Event}
use Rattle.nz_machine.specs.declared.event.Event.TheVariants.{Deliver, Tick, Alarm, Crash, Restart}
use Rattle.nz_machine.specs.declared.event.Parcel.{Parcel}
use Rattle.nz_machine.specs.rules.State.{Group}
use Rattle.nz_machine.specs.declared.event.Record.{Record}
use Rattle.nz_machine.specs.rules.Step.{Node, node_run, node_step}
use Rattle.nz_machine.specs.runs.World.{state_after}

-- ---- items as events

-- The frame comes as a parcel, where its addresses are somebody's.
abbrev pub delivery : Option Actor → Option Actor → List ℕ → Option Event
delivery (Some from) (Some to) frame = Some (Deliver (record { from = from; to = to; frame = frame }))
delivery _ _ frame = None

-- The event that an item is. A request is none.
abbrev pub event_of : Item → Option Event
event_of (items.Frame frame) = delivery (actor_at (sender frame)) (actor_at (receiver frame)) frame
event_of (items.Clock reading) = Some (Tick reading)
event_of items.Alarm = Some Alarm
event_of items.Crash = Some Crash
event_of (items.Restart nonce) = Some (Restart nonce)
event_of (items.Request command) = None

-- The events with one before them, if there is one.
abbrev pub with_event : Option Event → List Event → List Event
with_event None events = events
with_event (Some event) events = event ∷ events

-- The events that items are.
abbrev pub events_of : List Item → List Event
events_of [] = []
events_of (item ∷ rest) = with_event (event_of item) (events_of rest)

-- ---- what the machine makes of them

-- The frames of parcels, one after the other.
abbrev pub frames_of : List Parcel → List ℕ
frames_of parcels = flat_map (λ (p : Parcel). p.frame) parcels

-- An actor after these events.
abbrev pub node_after : Group → Node → List Event → Node
node_after g node [] = node
node_after g node (event ∷ events) = node_after g (node_run g node event).0 events

-- The frames of what the machine sends on these events.
abbrev pub output : Group → Node → List Event → List ℕ
output g node [] = []
output g node (event ∷ events) = frames_of (node_run g node event).1 ++ output g (node_run g node event).0 events

-- The lane of an actor after these events more: each with what the machine sends on it. No tick is said.
abbrev pub lane_after : Group → Actor → List Record → List Event → List Record
lane_after g a lane [] = lane
lane_after g a lane (event ∷ events) =
    lane_after g a (record { tick = 0; actor = a; event = event; sends = (node_step g a (state_after g a lane) event).1 } ∷ lane) events

-- The frames of what a lane sends, the oldest first.
abbrev pub frames_in : List Record → List ℕ
frames_in [] = []
frames_in (r ∷ earlier) = frames_in earlier ++ frames_of r.sends

-- The actor as its lane has led it.
abbrev pub node_at : Group → Actor → List Record → Node
node_at g a lane = record { actor = a; state = state_after g a lane }

-- ---- what a node has done

-- The event is what happens next on the stream.
pub record IsNext (before after : Option (List ℕ)) (event : Event) : Type 0 where
  pub item : Item
  pub valid : IsValidItem item
  pub event_is : event_of item ≡ Some event
  pub taken : Loses before after (spelling item)

-- The sink took a prefix of the bytes.
pub record TakesPrefix (before after : Option (List ℕ)) (bytes : List ℕ) : Type 0 where
  pub count : ℕ
  pub taken : Gains before after (take count bytes)

-- The sink took a prefix of the frames of what the machine sends on the event.
pub record BeganStep (fits : Group → Type 0) (node : Node) (event : Event) (before after : Option (List ℕ)) : Type 0 where
  pub wrote : (g : Group) → fits g → TakesPrefix before after (frames_of (node_run g node event).1)

-- The node took these items, which were next on the stream. It is what the machine makes of it on their events, and it
-- wrote the frames of what the machine sends on them, and nothing else.
pub record Took (fits : Group → Type 0) (old new : Node) (before after written wrote : Option (List ℕ)) (taken : List Item) : Type 0 where
  pub valid : AllByRecursion IsValidItem taken
  pub read : Loses before after (flat_map spelling taken)
  pub node : (g : Group) → fits g → new ≡ node_after g old (events_of taken)
  pub wrote_all : (g : Group) → fits g → Gains written wrote (output g old (events_of taken))

-- What the node wrote is a prefix of the frames of what the machine sends on items that were next on the stream.
pub record Began (fits : Group → Type 0) (old : Node) (before written wrote : Option (List ℕ)) : Type 0 where
  pub taken : List Item
  pub valid : AllByRecursion IsValidItem taken
  pub after : Option (List ℕ)
  pub read : Loses before after (flat_map spelling taken)
  pub wrote_some : (g : Group) → fits g → TakesPrefix written wrote (output g old (events_of taken))

-- The node took the whole stream, up to its end, and wrote the frames of what the machine sends on it.
pub record Served (fits : Group → Type 0) (old new : Node) (stream written wrote : Option (List ℕ)) : Type 0 where
  pub taken : List Item
  pub valid : AllByRecursion IsValidItem taken
  pub read : IfSome stream (λ bytes. bytes ≡ flat_map spelling taken)
  pub node : (g : Group) → fits g → new ≡ node_after g old (events_of taken)
  pub wrote_all : (g : Group) → fits g → Gains written wrote (output g old (events_of taken))
