-- What the loops of the function of this folder keep.
use Rattle.std.proofs.Common.{◌≡◌, ◌++◌, drop}
use Rattle.nz_script.specs.Draws.{script_for}
use Rattle.nz_script.proofs.generating.script_of.Given as goal

-- the script so far, and what it takes of the requests that are left
abbrev pub invariant-loop-request : goal.invariant-loop-request
invariant-loop-request l = record {
  picked : l.script ++ script_for l.client l.i (drop l.request-index l.requests) ≡ script_for l.client 0 l.requests;
  counted : l.i ≡ l.request-index;
}
