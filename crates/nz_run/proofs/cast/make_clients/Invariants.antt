-- What the loops of the function of this folder keep.
use Rattle.std.proofs.Common.{◌≡◌, map}
use Rattle.nz_machine.specs.rules.Replicas.{numbers_below}
use Rattle.nz_run.specs.Casts.{new_client}
use Rattle.nz_run.proofs.cast.make_clients.Given as goal

abbrev pub invariant-loop-me : goal.invariant-loop-me
invariant-loop-me l = l.made.items ≡ map (new_client l.scenario) (numbers_below l.me)
