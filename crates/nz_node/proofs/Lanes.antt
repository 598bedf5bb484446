-- The lane of a node.
use Rattle.std.proofs.Common.{◌≡◌, Bool, List, [], ◌∷◌, ◌++◌, refl, sym, ap, ◌∙◌, append-nil}
use Rattle.std.specs.Prelude.{if◌then◌else◌}
use Rattle.std.specs.List.{AllByRecursion}
use Rattle.std.proofs.lemmas.List.{append_assoc}
use Rattle.nz_base.proofs.Names.{actor_eq_self}
use Rattle.nz_base.specs.declared.actor.Actor.{Actor}
use Rattle.nz_machine.specs.declared.event.Event.{Event}
use Rattle.nz_machine.specs.declared.event.Record.{Record}
use Rattle.nz_machine.specs.rules.State.{State, Group}
use Rattle.nz_machine.specs.rules.Step.{Node, node_run, node_step}
use Rattle.nz_machine.specs.runs.World.{state_after}
use Rattle.nz_machine.specs.runs.Deployments.{IsItem, IsLane}
use Rattle.nz_node.specs.Nodes.{frames_in, frames_of, lane_after, node_after, node_at, output}

abbrev record_of : Group → Actor → List Record → Event → Record
record_of g a lane event = record { tick = 0; actor = a; event = event; sends = (node_step g a (state_after g a lane) event).1 }

-- the actor's own record leads it to the state after the event
own_step : (g : Group) (a : Actor) (lane : List Record) (event : Event)
    → state_after g a (record_of g a lane event ∷ lane) ≡ (node_step g a (state_after g a lane) event).0
unfolding state_after
own_step g a lane event =
    ap (λ (own : Bool). if own then (node_step g a (state_after g a lane) event).0 else state_after g a lane) (actor_eq_self a)

own_node : (g : Group) (a : Actor) (lane : List Record) (event : Event)
    → node_at g a (record_of g a lane event ∷ lane) ≡ (node_run g (node_at g a lane) event).0
own_node g a lane event = ap (λ (s : State a). record { actor = a; state = s }) (own_step g a lane event)

pub lanes : (g : Group) (a : Actor) (lane : List Record) (events : List Event) → AllByRecursion IsItem events → IsLane g a lane
    → IsLane g a (lane_after g a lane events)
lanes g a lane [] items is = is
lanes g a lane (event ∷ events) items is =
    lanes g a (record_of g a lane event ∷ lane) events items.1 (record { item = items.0; sends = refl }, is)

pub outputs : (g : Group) (a : Actor) (lane : List Record) (events : List Event)
    → frames_in (lane_after g a lane events) ≡ frames_in lane ++ output g (node_at g a lane) events
outputs g a lane [] = sym (append-nil (frames_in lane))
outputs g a lane (event ∷ events) =
    let sent = frames_of (node_run g (node_at g a lane) event).1 in
    outputs g a (record_of g a lane event ∷ lane) events
    ∙ append_assoc (frames_in lane) sent (output g (node_at g a (record_of g a lane event ∷ lane)) events)
    ∙ ap (λ (n : Node). frames_in lane ++ (sent ++ output g n events)) (own_node g a lane event)

pub nodes : (g : Group) (a : Actor) (lane : List Record) (events : List Event)
    → node_at g a (lane_after g a lane events) ≡ node_after g (node_at g a lane) events
nodes g a lane [] = refl
nodes g a lane (event ∷ events) =
    nodes g a (record_of g a lane event ∷ lane) events ∙ ap (λ (n : Node). node_after g n events) (own_node g a lane event)
