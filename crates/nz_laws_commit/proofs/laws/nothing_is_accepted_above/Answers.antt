-- What the function of this folder owes, proved.
use Rattle.nz_laws_commit.proofs.Rising.{accepted_within}
use Rattle.nz_laws_commit.proofs.laws.nothing_is_accepted_above.Goals as goal

pub returns : goal.returns
returns c = accepted_within
