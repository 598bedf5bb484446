-- What the loops of the function of this folder keep.
use Rattle.std.proofs.Common.{◌≡◌, ◌++◌, map, take, drop}
use Rattle.nz_fabric.specs.schedule.Posting.{put_off}
use Rattle.nz_fabric.proofs.schedule.deliveries.held.Given as goal

abbrev pub invariant-loop-place : goal.invariant-loop-place
invariant-loop-place l = l.deliveries ≡ map (put_off l.by) (take l.place l.initial.deliveries) ++ drop l.place l.initial.deliveries
