-- What the function of this folder owes, proved.
use Rattle.nz_base.proofs.Logs.{log_push}
use Rattle.nz_log.proofs.laws.appended_is_log.Goals as goal

pub returns : goal.returns
returns c = log_push
