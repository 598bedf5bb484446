-- What the function of this folder owes, proved.
use Rattle.nz_laws_commit.proofs.Whole.{lead_only_grows}
use Rattle.nz_laws_commit.proofs.laws.leader_log_grows.Goals as goal

pub returns : goal.returns
returns c = lead_only_grows
