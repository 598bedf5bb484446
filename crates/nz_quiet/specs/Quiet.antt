-- Quiet scenarios, and what is promised of their pace.
use Rattle.std.specs.Prelude.{◌≡◌, ◌⊎◌, map, ℕ, ◌+◌, ◌≤◌, List, [], ◌∷◌, ◌++◌, pos}
use Rattle.std.specs.List.{AllByRecursion}
use Rattle.nz_base.specs.declared.key.Id.{Id}
use Rattle.nz_base.specs.declared.scenario.Scenario.{Scenario}
use Rattle.nz_store.specs.declared.command.Answer.{Answer}
use Rattle.nz_msg.specs.declared.message.Path.TheVariants.{Fast}
use Rattle.nz_machine.specs.declared.event.Record.{Record}
use Rattle.nz_machine.specs.declared.client_event.ClientEvent.{ClientEvent}
use Rattle.nz_machine.specs.declared.client_event.ClientEvent.TheVariants.{Sent, Accepted}
use Rattle.nz_machine.specs.runs.Events.{client_events}
use Rattle.nz_machine.specs.rules.State.{Group}
use Rattle.nz_machine.specs.runs.World.{Has}

-- The scenario has no fault line, and each of its skews is 0.
pub record IsQuiet (s : Scenario) : Type 0 where
  pub faults : s.faults ≡ []
  pub skews : AllByRecursion (λ k. k.units ≡ pos 0) s.skews

-- The events of a run with the ticks of their records, the oldest first.
abbrev pub timed_events : Group → List Record → List (ℕ × ClientEvent)
timed_events g [] = []
timed_events g (r ∷ J) = timed_events g J ++ map (λ e. (r.tick, e)) (client_events g r.actor r J)

-- Each request that is sent at least 14 ticks before the last is accepted on the fast path after 5 or 14 ticks.
pub record IsPrompt (last : ℕ) (E : List (ℕ × ClientEvent)) : Type 0 where
  pub accepted : (t : ℕ) (id : Id) (command : List ℕ) → Has E (t, Sent id command) → t + 14 ≤ last
      → (a : Answer) × (Has E (t + 5, Accepted id a Fast) ⊎ Has E (t + 14, Accepted id a Fast))
