-- What the function of this folder owes, proved.
use Rattle.nz_quiet.proofs.ProxiesBounds.{two_bounds}
use Rattle.nz_quiet.proofs.laws_of_proxies.bounds_are_two.Goals as goal

pub returns : goal.returns
returns c = two_bounds
