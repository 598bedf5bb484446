-- What the loops of the function of this folder keep.
use Rattle.std.proofs.Common.{◌≡◌, false, take}
use Rattle.nz_base.specs.Log.{keys_of, has_id}
use Rattle.nz_base.proofs.entries.first_place.Given as goal

-- none so far has the id
abbrev pub invariant-loop-place : goal.invariant-loop-place
invariant-loop-place l = has_id (keys_of (take l.place l.entries)) l.id ≡ false
