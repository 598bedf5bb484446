-- What the function of this folder owes, proved.
use Rattle.nz_log.proofs.Placing.{place_found, place_only}
use Rattle.nz_log.proofs.laws.place_is_the_only_one.Goals as goal

pub returns : goal.returns
returns c = record { found = place_found; only = place_only }
