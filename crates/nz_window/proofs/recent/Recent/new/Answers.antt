-- What the function of this folder owes, proved.
use Rattle.std.proofs.Common.{refl, arith}
use Rattle.nz_window.proofs.Pushing.{get_or-zeros}
use Rattle.nz_window.proofs.recent.Recent.new.Goals as goal

pub invariant_of-result : goal.invariant_of-result
invariant_of-result c = record { long = refl; most = omega arith; zeros = λ k _. get_or-zeros 32 k }
