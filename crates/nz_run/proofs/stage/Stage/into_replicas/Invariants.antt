-- What the loops of the function of this folder keep.
use Rattle.nz_machine.specs.runs.Schedule.{group_of}
use Rattle.nz_fabric.specs.alone.States.{records_of}
use Rattle.nz_replica.specs.Models.{AreCores}
use Rattle.nz_run.proofs.stage.Stage.into_replicas.Given as goal

abbrev pub invariant-loop-cell : goal.invariant-loop-cell
invariant-loop-cell g l = AreCores (group_of g.N.RunName.scenario) (records_of l.state.run) l.replicas.items
