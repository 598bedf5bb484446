-- What the loops of the function of this folder keep.
use Rattle.std.proofs.Common.{◌≡◌, ◌<◌, ℕ, false}
use Rattle.std.specs.List.{list_any}
use Rattle.nz_locks.specs.Clean.{is_foul_request, script_in}
use Rattle.nz_locks.proofs.clean.first_foul.Given as goal

-- no client so far has a foul request
abbrev pub invariant-loop-client : goal.invariant-loop-client
invariant-loop-client l = (client : ℕ) → client < l.client → list_any (is_foul_request client) (script_in l.scenario.scripts client) ≡ false
