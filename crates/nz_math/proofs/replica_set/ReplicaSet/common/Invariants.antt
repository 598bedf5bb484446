-- What the loops of the function of this folder keep.
use Rattle.std.proofs.Common.{◌≡◌, ◌<◌, ℕ, false}
use Rattle.nz_math.specs.Count.{both, is_in, IsChoice}
use Rattle.nz_math.proofs.replica_set.ReplicaSet.common.Given as goal

abbrev pub invariant-loop-r : goal.invariant-loop-r
invariant-loop-r l = ((x : ℕ) → x < l.r → both (is_in l.self) (is_in l.other) x ≡ false) × (0 < l.r → IsChoice 9 l.self)
