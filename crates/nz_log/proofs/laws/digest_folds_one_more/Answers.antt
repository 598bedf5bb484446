-- What the function of this folder owes, proved.
use Rattle.nz_log.proofs.Digests.{digest_last}
use Rattle.nz_log.proofs.laws.digest_folds_one_more.Goals as goal

pub returns : goal.returns
returns c = digest_last
