-- What the loops of the function of this folder keep.
use Rattle.indexmap.specs.IndexMap.{get}
use Rattle.nz_locks.specs.Holdings.{same_holding}
use Rattle.nz_locks.proofs.Passes.{IsDoneFrom}
use Rattle.nz_locks.proofs.holding.tenures.Given as goal

-- the commands from here on are done with
abbrev pub invariant-loop-index : goal.invariant-loop-index
invariant-loop-index l = IsDoneFrom (get same_holding l.releases) l.found.items l.history l.index
