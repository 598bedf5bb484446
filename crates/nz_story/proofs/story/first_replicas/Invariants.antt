-- What the loops of the function of this folder keep.
use Rattle.std.proofs.Common.{◌≡◌, [], length}
use Rattle.nz_machine.specs.rules.State.{Group}
use Rattle.nz_story.specs.Courses.{AreWatched}
use Rattle.nz_story.proofs.story.first_replicas.Given as goal

abbrev pub invariant-loop-number : goal.invariant-loop-number
invariant-loop-number l = record {
  count : length l.replicas.items ≡ l.number;
  first : (g : Group) → g.f ≡ l.cluster → AreWatched g [] l.replicas.items;
}
