-- What the function of this folder owes, proved.
use Rattle.nz_locks.proofs.Excluding.{one_holder, in_turn}
use Rattle.nz_locks.proofs.laws.exclusive.Goals as goal

pub returns : goal.returns
returns c = record { one_holder = one_holder; in_turn = in_turn }
