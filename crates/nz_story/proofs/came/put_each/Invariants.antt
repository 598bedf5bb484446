-- What the loops of the function of this folder keep.
use Rattle.std.proofs.Common.{◌≡◌, ◌++◌, drop}
use Rattle.std.specs.List.{flat_map}
use Rattle.nz_story.specs.States.{came_word}
use Rattle.nz_story.proofs.came.put_each.Given as goal

-- what was written, and what is left after it
abbrev pub invariant-loop-key : goal.invariant-loop-key
invariant-loop-key l = l.out.items ++ flat_map came_word (drop l.key-index l.keys) ≡ l.fn.out.items ++ flat_map came_word l.keys
