-- What the function of this folder owes, proved.
use Rattle.nz_log.proofs.Modifying.{synced_more}
use Rattle.nz_log.proofs.laws.synced_part_stays.Goals as goal

pub returns : goal.returns
returns c = synced_more
