-- What the function of this folder owes, proved.
use Rattle.nz_laws_commit.proofs.Whole as whole
use Rattle.nz_laws_commit.proofs.laws.prefixes.Goals as goal

pub returns : goal.returns
returns c = whole.prefixes
