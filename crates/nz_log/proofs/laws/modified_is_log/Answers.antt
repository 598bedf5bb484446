-- What the function of this folder owes, proved.
use Rattle.nz_log.proofs.Modifying.{modified_sound}
use Rattle.nz_log.proofs.laws.modified_is_log.Goals as goal

pub returns : goal.returns
returns c = modified_sound
