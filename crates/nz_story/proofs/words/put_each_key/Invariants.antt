-- What the loops of the function of this folder keep.
use Rattle.std.proofs.Common.{◌≡◌, ◌++◌, drop}
use Rattle.std.specs.List.{flat_map}
use Rattle.nz_story.specs.Fields.{key_after_space}
use Rattle.nz_story.proofs.words.put_each_key.Given as goal

-- what was written, and what is left after it
abbrev pub invariant-loop-key : goal.invariant-loop-key
invariant-loop-key l = l.out.items ++ flat_map key_after_space (drop l.key-index l.keys) ≡ l.fn.out.items ++ flat_map key_after_space l.keys
