-- What the function of this folder owes, proved.
use Rattle.std.proofs.Common.{◌≡◌, ℕ, ◌≤◌, arith}
use Rattle.std.specs.Prelude.{Result, Ok, Err, IfOk}
use Rattle.nz_base.specs.declared.memory.NoMemory.{NoMemory}
use Rattle.nz_audit.specs.declared.prefixes.replays.Replayed.{Replayed}
use Rattle.nz_audit.proofs.prefixes.replays.start_of.Goals as goal

-- before the first record is before any source
first_of_all : (r : Result Replayed NoMemory) (n : ℕ) → IfOk r (λ at. at.source.records ≡ 0) → IfOk r (λ start. start.source.records ≤ n)
first_of_all (Ok at) n none = omega (arith, none)
first_of_all (Err e) n none = none

pub returns-clause-records : goal.returns-clause-records
returns-clause-records c = first_of_all c.first.result c.args.source.records c.first.ensures.records
