-- A run in order of a quiet scenario has its pace.
use Rattle.std.proofs.Common.{◌≡◌, List, [], ◌∷◌, sym, subst}
use Rattle.nz_base.specs.declared.scenario.Scenario.{Scenario}
use Rattle.nz_machine.specs.declared.event.Record.{Record}
use Rattle.nz_machine.specs.declared.journal.Journal.{Journal}
use Rattle.nz_machine.specs.journals.Journals.{group_in, run_in}
use Rattle.nz_machine.specs.runs.Schedule.{InOrder, IsPlayable}
use Rattle.nz_machine.specs.rules.State.{Group}
use Rattle.nz_machine.specs.runs.Steps.{AreSteps}
use Rattle.nz_machine.specs.runs.World.{World}
use Rattle.nz_quiet.proofs.Served.{is_prompt}
use Rattle.nz_top.specs.Calls.{HasPace}

-- the records of a run send what their actors send
world_steps : (g : Group) (J : List Record) → World g J → AreSteps g J
world_steps g [] w = tt
world_steps g (r ∷ J) w = (w.0.sends, world_steps g J w.1)

pub has_pace : (s : Scenario) (j : Journal) → j.scenario ≡ s → IsPlayable s → World (group_in j) (run_in j) → InOrder s (run_in j) → HasPace j
has_pace s j is playable w order =
    λ quiet. is_prompt j.scenario (run_in j) (subst IsPlayable (sym is) playable) quiet (subst (λ (t : Scenario). InOrder t (run_in j)) (sym is) order)
    (world_steps (group_in j) (run_in j) w)
