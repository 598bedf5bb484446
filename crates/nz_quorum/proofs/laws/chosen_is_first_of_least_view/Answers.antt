-- What the function of this folder owes, proved.
use Rattle.nz_quorum.proofs.Choosing.{chosen_is_first}
use Rattle.nz_quorum.proofs.laws.chosen_is_first_of_least_view.Goals as goal

pub returns : goal.returns
returns c = chosen_is_first
