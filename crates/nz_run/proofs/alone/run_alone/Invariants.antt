-- What the loops of the function of this folder keep.
use Rattle.std.proofs.Common.{◌≡◌, ◌-◌}
use Rattle.nz_run.specs.Playing.{IsAtEnd, scenario_of, tick_of}
use Rattle.nz_run.proofs.alone.run_alone.Given as goal

abbrev pub decreases-ticks : goal.decreases-ticks
decreases-ticks l = (scenario_of l.playing).ticks - tick_of l.playing

abbrev pub invariant-ticks : goal.invariant-ticks
invariant-ticks l = record {
  at_end : IsAtEnd l.playing;
  scenario : scenario_of l.playing ≡ l.scenario;
}
