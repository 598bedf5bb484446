-- What the function of this folder owes, proved.
use Rattle.nz_quiet.proofs.ProxiesHear.{all_answered}
use Rattle.nz_quiet.proofs.laws_of_proxies.requests_are_answered.Goals as goal

pub returns : goal.returns
returns c = all_answered
