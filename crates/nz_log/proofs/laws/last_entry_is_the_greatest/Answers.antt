-- What the function of this folder owes, proved.
use Rattle.nz_base.proofs.Logs.{above_none, above_some}
use Rattle.nz_log.proofs.laws.last_entry_is_the_greatest.Goals as goal

pub returns : goal.returns
returns c = record { none = above_none; some = above_some }
