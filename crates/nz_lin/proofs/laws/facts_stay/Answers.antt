-- What the function of this folder owes, proved.
use Rattle.nz_laws_commit.proofs.FactsStay.{facts_stay}
use Rattle.nz_lin.proofs.laws.facts_stay.Goals as goal

pub returns : goal.returns
returns c = facts_stay
