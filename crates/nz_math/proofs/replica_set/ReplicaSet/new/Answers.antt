-- What the function of this folder owes, proved.
use Rattle.std.proofs.Common.{refl}
use Rattle.nz_math.specs.Count.{members_below}
use Rattle.nz_math.proofs.replica_set.ReplicaSet.new.Goals as goal

pub returns : goal.returns
unfolding members_below
returns c = refl
