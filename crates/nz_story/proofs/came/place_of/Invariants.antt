-- What the loops of the function of this folder keep.
use Rattle.std.proofs.Common.{◌≡◌, drop}
use Rattle.nz_base.specs.Log.{has_key}
use Rattle.nz_story.proofs.came.place_of.Given as goal

abbrev pub invariant-loop-place : goal.invariant-loop-place
invariant-loop-place l = has_key l.keys l.key ≡ has_key (drop l.place l.keys) l.key
