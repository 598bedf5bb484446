-- What the function of this folder owes, proved.
use Rattle.nz_log.proofs.Modifying.{none_lost}
use Rattle.nz_log.proofs.laws.no_entry_is_lost.Goals as goal

pub returns : goal.returns
returns c = none_lost
