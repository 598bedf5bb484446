-- What the loops of the function of this folder keep.
use Rattle.std.proofs.Common.{◌≡◌, ◌++◌, ◌-◌}
use Rattle.nz_script.specs.Draws.{scripts_for}
use Rattle.nz_script.proofs.generating.scripts_of.Given as goal

-- the scripts so far, and those of the clients that are left
abbrev pub invariant-loop-client : goal.invariant-loop-client
invariant-loop-client l = l.scripts ++ scripts_for l.client (16 - l.client) l.requests ≡ scripts_for 0 16 l.requests
