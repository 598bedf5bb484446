-- What the loops of the function of this folder keep.
use Rattle.std.proofs.Common.{◌≡◌, ◌-◌}
use Rattle.nz_run.specs.Playing.{scenario_of, tick_of}
use Rattle.nz_top.specs.Watching.{IsWatched}
use Rattle.nz_top.proofs.watching.watch_all.Given as goal

abbrev pub decreases-ticks : goal.decreases-ticks
decreases-ticks l = (scenario_of l.watched.playing).ticks - tick_of l.watched.playing

abbrev pub invariant-ticks : goal.invariant-ticks
invariant-ticks l = record {
  watched : IsWatched l.report l.watched;
  scenario : scenario_of l.watched.playing ≡ l.scenario;
}
