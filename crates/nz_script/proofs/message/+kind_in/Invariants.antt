-- What the loops of the function of this folder keep.
use Rattle.std.proofs.Common.{length}
use Rattle.nz_script.proofs.message.+kind_in.Given as goal

abbrev pub decreases-kind_in : goal.decreases-kind_in
decreases-kind_in l = length l.messages.now
