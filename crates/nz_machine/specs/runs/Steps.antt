-- What the records of a run send.
use Rattle.std.specs.Prelude.{◌≡◌, List, [], ◌∷◌, filter}
use Rattle.nz_base.specs.Actor.{actor_eq}
use Rattle.nz_base.specs.declared.actor.Actor.{Actor}
use Rattle.nz_machine.specs.declared.event.Record.{Record}
use Rattle.nz_machine.specs.rules.State.{Group}
use Rattle.nz_machine.specs.rules.Step.{node_step}
use Rattle.nz_machine.specs.runs.World.{state_after}

-- The records of an actor among others.
abbrev pub of_actor : Actor → List Record → List Record
of_actor a records = filter (λ r. actor_eq r.actor a) records

-- Each record, the newest first, sends what its actor sends on its event after the earlier records.
abbrev pub AreSteps : Group → List Record → Type 0
AreSteps g [] = Unit {0}
AreSteps g (r ∷ older) = (r.sends ≡ (node_step g r.actor (state_after g r.actor older) r.event).1) × AreSteps g older
