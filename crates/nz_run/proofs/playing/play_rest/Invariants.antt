-- What the loops of the function of this folder keep.
use Rattle.std.proofs.Common.{◌≡◌, ◌-◌, length}
use Rattle.nz_fabric.specs.alone.States.{HasNoOpenItem}
use Rattle.nz_run.specs.Casts.{IsUnderWay}
use Rattle.nz_run.proofs.playing.play_rest.Given as goal

abbrev pub decreases-items : goal.decreases-items
decreases-items l = length l.alone.items - l.alone.next

abbrev pub invariant-items : goal.invariant-items
invariant-items l = record {
  none_open : HasNoOpenItem l.alone;
  under_way : IsUnderWay l.alone l.cast;
  scenario : l.alone.scenario ≡ l.initial.alone.scenario;
  tick : l.alone.tick ≡ l.initial.alone.tick;
  earlier : l.alone.finished ≡ l.initial.alone.finished;
}
