-- What the function of this folder owes, proved.
use Rattle.nz_observe.proofs.Ticks.{stable_at_ticks, comparable_at_ticks}
use Rattle.nz_observe.proofs.laws.stable.Goals as goal

pub returns-clause-stable : goal.returns-clause-stable
returns-clause-stable c = stable_at_ticks

pub returns-clause-accepted : goal.returns-clause-accepted
returns-clause-accepted c = comparable_at_ticks
