-- What the function of this folder owes, proved.
use Rattle.nz_window.proofs.Order.{orders_all}
use Rattle.nz_window.proofs.laws.samples_are_ordered.Goals as goal

pub returns : goal.returns
returns c = orders_all
