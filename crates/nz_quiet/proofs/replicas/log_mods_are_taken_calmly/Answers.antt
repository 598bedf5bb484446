-- What the function of this folder owes, proved.
use Rattle.nz_quiet.proofs.QuietLogMods.{taken_calmly}
use Rattle.nz_quiet.proofs.replicas.log_mods_are_taken_calmly.Goals as goal

pub returns : goal.returns
returns c = taken_calmly
