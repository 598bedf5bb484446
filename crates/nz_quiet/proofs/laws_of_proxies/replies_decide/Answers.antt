-- What the function of this folder owes, proved.
use Rattle.nz_quiet.proofs.ProxiesTally.{all_decide}
use Rattle.nz_quiet.proofs.laws_of_proxies.replies_decide.Goals as goal

pub returns : goal.returns
returns c = all_decide
