-- What an actor and its records are after events.
use Rattle.std.specs.Prelude.{ℕ, List, [], ◌∷◌}
use Rattle.nz_base.specs.declared.actor.Actor.{Actor}
use Rattle.nz_machine.specs.declared.event.Event.{Event}
use Rattle.nz_machine.specs.declared.event.Parcel.{Parcel}
use Rattle.nz_machine.specs.declared.event.Record.{Record}
use Rattle.nz_machine.specs.rules.State.{Group}
use Rattle.nz_machine.specs.rules.Step.{Node, node_run, node_step}
use Rattle.nz_machine.specs.runs.World.{state_after}
use Rattle.nz_fabric.specs.threads.Records.{ActorSteps, with_step}

-- The actor with the state that its records lead it to.
abbrev pub node_after : Group → ActorSteps → Node
node_after g own = record { actor = own.actor; state = state_after g own.actor own.steps }

-- What the actor sends on the event after its records.
abbrev pub sends_after : Group → ActorSteps → Event → List Parcel
sends_after g own e = (node_step g own.actor (state_after g own.actor own.steps) e).1

-- The node after these events, one after another.
abbrev pub node_from : Group → Node → List Event → Node
node_from g node [] = node
node_from g node (e ∷ es) = node_from g (node_run g node e).0 es

-- What it sends on each of them.
abbrev pub sends_from : Group → Node → List Event → List (List Parcel)
sends_from g node [] = []
sends_from g node (e ∷ es) = (node_run g node e).1 ∷ sends_from g (node_run g node e).0 es

-- The record of an event of an actor in a tick, with what was sent on it.
abbrev pub step_of : ℕ → Actor → Event → List Parcel → Record
step_of tick a e sends = record { tick = tick; actor = a; event = e; sends = sends }

-- The records of a batch in a tick, the oldest first: one for each event, with what was sent on it.
abbrev pub batch_records : ℕ → Actor → List Event → List (List Parcel) → List Record
batch_records tick a [] sends = []
batch_records tick a (e ∷ es) [] = []
batch_records tick a (e ∷ es) (sent ∷ sends) = step_of tick a e sent ∷ batch_records tick a es sends

-- An actor with these records more, the oldest of them first.
abbrev pub with_steps : List Record → ActorSteps → ActorSteps
with_steps [] own = own
with_steps (r ∷ rs) own = with_steps rs (with_step r own)
