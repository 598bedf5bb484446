-- What the loops of the function of this folder keep.
use Rattle.std.proofs.Common.{◌≡◌, ◌++◌, ◌-◌}
use Rattle.nz_script.specs.Draws.{draws_after, requests_for}
use Rattle.nz_script.proofs.generating.requests_of.Given as goal

-- the requests so far, and those that the draws give from here on
abbrev pub invariant-loop-i : goal.invariant-loop-i
invariant-loop-i l = record {
  made : l.requests ++ requests_for l.draws.state l.i (l.count - l.i) ≡ requests_for l.fn.draws.state 0 l.count;
  left : draws_after (l.count - l.i) l.draws.state ≡ draws_after l.count l.fn.draws.state;
}
