-- What the loops of the function of this folder keep.
use Rattle.std.proofs.Common.{◌≡◌, ◌++◌, drop}
use Rattle.std.specs.List.{flat_map}
use Rattle.nz_story.specs.Fields.{after_space}
use Rattle.nz_story.proofs.words.put_each_id.Given as goal

-- what was written, and what is left after it
abbrev pub invariant-loop-id : goal.invariant-loop-id
invariant-loop-id l = l.out.items ++ flat_map after_space (drop l.id-index l.ids) ≡ l.fn.out.items ++ flat_map after_space l.ids
