-- What the function of this folder owes, proved.
use Rattle.nz_laws_commit.proofs.Accepted.{accepted_somewhere}
use Rattle.nz_laws_commit.proofs.laws.accepted_prefixes_have_views.Goals as goal

pub returns : goal.returns
returns c = λ g J P w accepted. accepted_somewhere g J w P accepted
