-- What the function of this folder owes, proved.
use Rattle.nz_run.proofs.FirstCores.{replicas_first, proxies_first, clients_first}
use Rattle.nz_run.proofs.stage.Stage.new.Goals as goal

pub cells_of-requires-clause-cores : goal.cells_of-requires-clause-cores
cells_of-requires-clause-cores g c = replicas_first c.args.scenario.now g.N.RunName.scenario c.in_ok-replicas.field-0 c.in_ok-replicas.ensures c.requires.scenario

pub cells_of-requires-2-clause-cores : goal.cells_of-requires-2-clause-cores
cells_of-requires-2-clause-cores g c = proxies_first c.args.scenario.now g.N.RunName.scenario c.in_ok-replicas.field-0 c.in_ok-replicas.ensures c.requires.scenario

pub cells_of-requires-3-clause-cores : goal.cells_of-requires-3-clause-cores
cells_of-requires-3-clause-cores g c = clients_first c.args.scenario.now g.N.RunName.scenario c.in_ok-replicas.field-0 c.in_ok-replicas.ensures c.requires.scenario
