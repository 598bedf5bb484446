-- What the function of this folder owes, proved.
use Rattle.nz_quiet.proofs.ProxiesHear.{proxy_tick}
use Rattle.nz_quiet.proofs.laws_of_proxies.proxies_do_their_part.Goals as goal

pub returns : goal.returns
returns c = proxy_tick
