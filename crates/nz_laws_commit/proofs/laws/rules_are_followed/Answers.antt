-- What the function of this folder owes, proved.
use Rattle.nz_laws_commit.proofs.Whole.{follows}
use Rattle.nz_laws_commit.proofs.laws.rules_are_followed.Goals as goal

pub returns : goal.returns
returns c = follows
