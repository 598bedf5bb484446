-- What the function of this folder owes, proved.
use Rattle.nz_laws_commit.proofs.Starts.{starts_merged, zero_starts_empty}
use Rattle.nz_laws_commit.proofs.laws.views_start_with_merged_logs.Goals as goal

pub returns-clause-above : goal.returns-clause-above
returns-clause-above c = λ g J v S w later. starts_merged g J w v later S

pub returns-clause-zero : goal.returns-clause-zero
returns-clause-zero c = zero_starts_empty
