-- What the function of this folder owes, proved.
use Rattle.nz_run.proofs.AllCores.{cast_begins}
use Rattle.nz_run.proofs.cast.Cast.new.Goals as goal

pub returns : goal.returns
returns c = cast_begins c.args.scenario.now _ c.requires c.in_ok-make_replicas.ensures c.in_ok-make_proxies.ensures c.in_ok-make_clients.ensures
