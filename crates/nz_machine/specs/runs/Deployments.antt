-- Deployments: what the nodes of a cluster do, each an actor by itself, and what their links and nonces have to be.
use Rattle.std.specs.Prelude.{◌≡◌, ℕ, ◌^◌, ◌<◌, ◌≤◌, List, [], ◌∷◌}
use Rattle.std.specs.List.{AllByRecursion}
use Rattle.nz_base.specs.declared.actor.Actor.{Actor}
use Rattle.nz_base.specs.declared.limits.TheConstants.{MAX_CLOCK}
use Rattle.nz_machine.specs.declared.event.Event.{Event}
use Rattle.nz_machine.specs.declared.event.Event.TheVariants.{Deliver, Cut, Tick, Restart}
use Rattle.nz_machine.specs.declared.event.Record.{Record}
use Rattle.nz_machine.specs.rules.State.{Group}
use Rattle.nz_machine.specs.rules.Step.{node_step}
use Rattle.nz_machine.specs.runs.Steps.{of_actor}
use Rattle.nz_machine.specs.runs.World.{state_after, sent_in, Has, IsGroup, IsMember, Restarts}

-- What can come to a node: a clock reads at most the greatest reading, and a nonce has 64 bits.
abbrev pub IsItem : Event → Type 0
IsItem (Tick clock) = clock ≤ MAX_CLOCK
IsItem (Restart nonce) = nonce < 2 ^ 64
IsItem _ = Unit {0}

-- What the node sent is what the machine sends on what came, in the state that its own records lead to.
pub record IsStepOf (g : Group) (a : Actor) (earlier : List Record) (r : Record) : Type 0 where
  pub item : IsItem r.event
  pub sends : r.sends ≡ (node_step g a (state_after g a earlier) r.event).1

-- The lane of a node: what came to it and what it sent, the newest first. It speaks of no other node.
abbrev pub IsLane : Group → Actor → List Record → Type 0
IsLane g a [] = Unit {0}
IsLane g a (r ∷ earlier) = IsStepOf g a earlier r × IsLane g a earlier

-- Each record, with those before it.
abbrev pub EachAfter : (List Record → Record → Type 0) → List Record → Type 0
EachAfter P [] = Unit {0}
EachAfter P (r ∷ earlier) = P earlier r × EachAfter P earlier

-- What comes over a link was sent before, to whom it comes.
abbrev pub WasSentTo : List Record → Actor → Event → Type 0
WasSentTo earlier a (Deliver p) = (p.to ≡ a) × Has (sent_in earlier) p
WasSentTo earlier a (Cut kept p) = (p.to ≡ a) × Has (sent_in earlier) p
WasSentTo earlier a _ = Unit {0}

-- A node does not restart with a nonce that it had before.
abbrev pub HasNewNonce : List Record → Record → Type 0
HasNewNonce earlier r = (nonce : ℕ) → Restarts r.actor nonce r → AllByRecursion (λ (e : Record). ¬ Restarts r.actor nonce e) earlier

-- What all nodes of a group do, the newest first, in any order in which nothing comes before it was sent. Each node
-- keeps to the machine by itself; links deliver only what was sent, though they may lose, repeat, reorder, delay and
-- cut it; and no nonce comes twice.
pub record IsDeployment (g : Group) (J : List Record) : Type 0 where
  pub group : IsGroup g
  pub members : AllByRecursion (λ (r : Record). IsMember g r.actor) J
  pub lanes : (a : Actor) → IsLane g a (of_actor a J)
  pub links : EachAfter (λ earlier r. WasSentTo earlier r.actor r.event) J
  pub nonces : EachAfter HasNewNonce J
