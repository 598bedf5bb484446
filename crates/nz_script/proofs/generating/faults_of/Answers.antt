-- What the function of this folder owes, proved.
use Rattle.std.proofs.Common.{◌++◌, ◌∷◌, [], ◌-◌, ◌+◌, ◌/◌, ◌∙◌, ap, List, ℕ}
use Rattle.nz_base.specs.declared.scenario.Fault.{Fault}
use Rattle.nz_script.specs.Draws.{faults_for}
use Rattle.nz_script.proofs.Drawing.{next_fault}
use Rattle.nz_script.proofs.generating.faults_of.Goals as goal

pub loop-j-preserved : goal.loop-j-preserved
loop-j-preserved c =
    ap (λ (l : List Fault). l ++ faults_for c.args.count c.fault_of.new.draws.state (c.loop-j.j + 1)
    (c.args.count / 50 - (c.loop-j.j + 1))) c.in_ok-push.ensures.ok
    ∙ ap (λ (x : ℕ). (c.loop-j.faults ++ c.fault_of.result ∷ [])
    ++ faults_for c.args.count x (c.loop-j.j + 1) (c.args.count / 50 - (c.loop-j.j + 1))) c.fault_of.ensures.state
    ∙ next_fault c.args.count c.loop-j.draws.state c.loop-j.j
    (c.args.count / 50) c.loop-j.faults _ c.fault_of.result c.loop-j-test.true c.fault_of.ensures.fault c.loop-j.invariant
