-- What the function of this folder owes, proved.
use Rattle.nz_laws_commit.proofs.Counts.{are_once}
use Rattle.nz_lin.proofs.laws.once_each.Goals as goal

pub returns : goal.returns
returns c = λ g J w. are_once g J
