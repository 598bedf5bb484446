-- What the function of this folder owes, proved.
use Rattle.nz_lin.proofs.Snapshots.{are_snapshots}
use Rattle.nz_lin.proofs.laws.messages_are_snapshots.Goals as goal

pub returns : goal.returns
returns c = are_snapshots
