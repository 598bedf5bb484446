-- What the function of this folder owes, proved.
use Rattle.nz_quiet.proofs.ProxiesFlight.{proxy_may_hear}
use Rattle.nz_quiet.proofs.laws_of_proxies.proxies_hear_what_they_may.Goals as goal

pub returns : goal.returns
returns c = proxy_may_hear
