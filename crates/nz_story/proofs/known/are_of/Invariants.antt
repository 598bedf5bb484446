-- What the loops of the function of this folder keep.
use Rattle.std.proofs.Common.{◌≡◌, take}
use Rattle.nz_base.specs.Log.{keys_of}
use Rattle.nz_story.proofs.known.are_of.Given as goal

abbrev pub invariant-loop-place : goal.invariant-loop-place
invariant-loop-place l = take l.place l.keys ≡ keys_of (take l.place l.log.entries)
