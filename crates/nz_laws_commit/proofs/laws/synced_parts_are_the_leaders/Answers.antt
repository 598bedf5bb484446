-- What the function of this folder owes, proved.
use Rattle.nz_laws_commit.proofs.Whole.{synced_is_leads}
use Rattle.nz_laws_commit.proofs.laws.synced_parts_are_the_leaders.Goals as goal

pub returns : goal.returns
returns c = λ g J r v w normal. synced_is_leads g J r v w normal
