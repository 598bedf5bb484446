-- What the loops of the function of this folder keep.
use Rattle.std.proofs.Common.{◌≡◌, false, take}
use Rattle.std.specs.List.{list_any}
use Rattle.nz_locks.specs.Clean.{is_foul_request}
use Rattle.nz_locks.proofs.clean.first_foul_place.Given as goal

-- no request so far is foul
abbrev pub invariant-loop-place : goal.invariant-loop-place
invariant-loop-place l = list_any (is_foul_request l.client) (take l.place l.script) ≡ false
