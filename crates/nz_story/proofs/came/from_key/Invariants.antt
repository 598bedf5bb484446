-- What the loops of the function of this folder keep.
use Rattle.std.proofs.Common.{◌≡◌, false, drop}
use Rattle.nz_base.specs.declared.key.Key.{Key}
use Rattle.nz_base.specs.Key.{key_below}
use Rattle.nz_base.specs.Log.{has_key}
use Rattle.nz_story.proofs.came.from_key.Given as goal

-- the keys so far are below it
abbrev pub invariant-loop-place : goal.invariant-loop-place
invariant-loop-place l = (k : Key) → key_below k l.key ≡ false → has_key l.keys k ≡ has_key (drop l.place l.keys) k
