-- What the loops of the function of this folder keep.
use Rattle.std.proofs.Common.{◌≡◌, ◌++◌, ◌-◌, ◌/◌}
use Rattle.nz_script.specs.Draws.{faults_for}
use Rattle.nz_script.proofs.generating.faults_of.Given as goal

-- the faults so far, and those that the draws give from here on
abbrev pub invariant-loop-j : goal.invariant-loop-j
invariant-loop-j l = l.faults ++ faults_for l.count l.draws.state l.j (l.count / 50 - l.j) ≡ faults_for l.count l.fn.draws.state 0 (l.count / 50)
