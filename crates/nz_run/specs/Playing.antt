-- A run on one thread that goes on.
use Rattle.std.specs.Prelude.{◌≡◌, ℕ, ◌+◌, ◌<◌, ◌≤◌, List}
use Rattle.std.specs.List.{AllByRecursion}
use Rattle.nz_base.specs.declared.scenario.Scenario.{Scenario}
use Rattle.nz_machine.specs.declared.event.Record.{Record}
use Rattle.nz_fabric.specs.alone.States.{IsDone, records_of}
use Rattle.nz_run.specs.declared.playing.Playing.{Playing}
use Rattle.nz_run.specs.Casts.{IsUnderWay}

-- Its scenario.
abbrev pub scenario_of : Playing → Scenario
scenario_of p = p.alone.scenario

-- The tick that was played last, 0 before the first.
abbrev pub tick_of : Playing → ℕ
tick_of p = p.alone.tick

-- Its records so far, the newest first.
abbrev pub run_of : Playing → List Record
run_of p = records_of p.alone

-- Those of the tick that was played last, and those of the ticks before it.
abbrev pub last_of : Playing → List Record
last_of p = p.alone.here

abbrev pub earlier_of : Playing → List Record
earlier_of p = p.alone.finished

-- The last tick was played to its end, and the records are a run of the world.
pub record IsAtEnd (p : Playing) : Type 0 where
  pub done : IsDone p.alone
  pub under_way : IsUnderWay p.alone p.cast

-- One tick more was played.
pub record IsNextTick (before now : Playing) : Type 0 where
  pub at_end : IsAtEnd now
  pub scenario : scenario_of now ≡ scenario_of before
  pub within : tick_of before < (scenario_of before).ticks
  pub tick : tick_of now ≡ tick_of before + 1
  pub earlier : earlier_of now ≡ run_of before
  pub ticks_before : AllByRecursion (λ r. r.tick ≤ tick_of before) (run_of before)
  pub tick_now : AllByRecursion (λ r. r.tick ≡ tick_of now) (last_of now)
