-- What the loops of the function of this folder keep.
use Rattle.std.proofs.Common.{◌≡◌, ◌≤◌, ◌-◌, drop, length}
use Rattle.nz_buffers.specs.Places.{key_place_from}
use Rattle.nz_buffers.proofs.places.key_place.Given as goal

abbrev pub invariant-loop-place : goal.invariant-loop-place
invariant-loop-place l =
    record { within : l.place ≤ length l.entries; place : key_place_from l.place (drop l.place l.entries) l.key ≡ key_place_from 0 l.entries l.key }

abbrev pub decreases-loop-place : goal.decreases-loop-place
decreases-loop-place l = length l.entries - l.place
