-- What the loops of the function of this folder keep.
use Rattle.std.proofs.Common.{◌≡◌, ◌++◌, drop}
use Rattle.nz_story.specs.States.{came}
use Rattle.nz_story.proofs.came.came_of.Given as goal

abbrev pub invariant-loop-key : goal.invariant-loop-key
invariant-loop-key l = l.keys.items ++ came l.before (drop l.key-index l.after) ≡ came l.before l.after
