-- What the loops of the function of this folder keep.
use Rattle.std.proofs.Common.{◌≡◌, ◌<◌}
use Rattle.nz_math.specs.Count.{count_below, is_in, IsChoice}
use Rattle.nz_math.proofs.replica_set.ReplicaSet.count.Given as goal

abbrev pub invariant-loop-r : goal.invariant-loop-r
invariant-loop-r l = (l.count ≡ count_below l.r (is_in l.self)) × (0 < l.r → IsChoice 9 l.self)
