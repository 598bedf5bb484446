-- What the loops of the function of this folder keep.
use Rattle.std.proofs.Common.{◌≡◌, ◌++◌, drop}
use Rattle.std.specs.List.{flat_map}
use Rattle.nz_story.specs.Fields.{after_comma}
use Rattle.nz_story.proofs.words.put_each_after_comma.Given as goal

-- what was written, and what is left after it
abbrev pub invariant-loop-number : goal.invariant-loop-number
invariant-loop-number l = l.out.items ++ flat_map after_comma (drop l.number-index l.numbers) ≡ l.fn.out.items ++ flat_map after_comma l.numbers
