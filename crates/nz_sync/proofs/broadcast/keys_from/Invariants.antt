-- What the loops of the function of this folder keep.
use Rattle.std.proofs.Common.{◌≡◌, ◌-◌, take, drop}
use Rattle.nz_base.specs.Log.{keys_of}
use Rattle.nz_sync.proofs.broadcast.keys_from.Given as goal

abbrev pub invariant-loop-place : goal.invariant-loop-place
invariant-loop-place l = l.keys ≡ take (l.place - l.start) (drop l.start (keys_of l.state.state.log.entries))
