-- What the function of this folder owes, proved.
use Rattle.std.proofs.Common.{◌++◌, ◌-◌, ◌+◌, ◌∙◌, ap, List}
use Rattle.nz_base.specs.declared.scenario.Request.{Request}
use Rattle.nz_script.specs.Draws.{scripts_for}
use Rattle.nz_script.proofs.Drawing.{next_script}
use Rattle.nz_script.proofs.generating.scripts_of.Goals as goal

pub loop-client-preserved : goal.loop-client-preserved
loop-client-preserved c =
    ap (λ (l : List (List Request)). l ++ scripts_for (c.loop-client.client + 1) (16 - (c.loop-client.client + 1)) c.args.requests.now) c.in_ok-push.ensures.ok
    ∙ next_script c.loop-client.client 16 c.args.requests.now c.loop-client.scripts _ c.in_ok-script_of.field-0
    c.loop-client-test.true c.in_ok-script_of.ensures c.loop-client.invariant
