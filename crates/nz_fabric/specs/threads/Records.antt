-- The records of each actor among those of a run.
use Rattle.std.specs.Prelude.{◌≡◌, ℕ, List, ◌∷◌, ◌++◌, length, get_or}
use Rattle.nz_base.specs.declared.actor.Actor.{Actor}
use Rattle.nz_machine.specs.declared.event.Record.{Record}
use Rattle.nz_machine.specs.runs.Steps.{of_actor}
use Rattle.nz_fabric.specs.schedule.Calendars.{number_in_all}

-- An actor with its records, the newest first.
pub record ActorSteps : Type 0 where
  pub actor : Actor
  pub steps : List Record

-- The actor with its records among these.
abbrev pub steps_of : Actor → List Record → ActorSteps
steps_of a J = record { actor = a; steps = of_actor a J }

-- The actor with one record more.
abbrev pub with_step : Record → ActorSteps → ActorSteps
with_step r own = record { actor = own.actor; steps = r ∷ own.steps }

-- For each actor, how many of the records are its own.
pub record AreCounts (J : List Record) (counts : List ℕ) : Type 0 where
  pub many : length counts ≡ 768
  pub counted : (a : Actor) → get_or counts (number_in_all a) 0 ≡ length (of_actor a J)

-- Some first ones of these records were added.
pub record AddsSome (steps before after : List Record) : Type 0 where
  pub done : List Record
  pub rest : List Record
  pub whole : steps ≡ done ++ rest
  pub added : after ≡ before ++ done
