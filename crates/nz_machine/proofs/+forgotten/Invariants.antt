-- How the cycle of this folder ends.
use Rattle.nz_machine.proofs.+forgotten.Given as goal

abbrev pub decreases-forgotten::Forgotten::drop : goal.decreases-forgotten::Forgotten::drop
decreases-forgotten::Forgotten::drop l = goal.size-forgotten::Forgotten::drop l
