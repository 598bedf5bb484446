-- What the function of this folder owes, proved.
use Rattle.std.proofs.Common.{◌++◌, ◌∷◌, [], ◌-◌, ◌+◌, ◌∙◌, ap, List, ℕ}
use Rattle.nz_base.specs.declared.scenario.Request.{Request}
use Rattle.nz_script.specs.Draws.{requests_for, request_for, draws_after}
use Rattle.nz_script.proofs.Drawing.{next_request, next_state}
use Rattle.nz_script.proofs.generating.requests_of.Goals as goal

pub loop-i-preserved : goal.loop-i-preserved
loop-i-preserved c = record {
  made =
      ap (λ (l : List Request). l ++ requests_for c.request_of.new.draws.state (c.loop-i.i + 1) (c.args.count - (c.loop-i.i + 1))) c.in_ok-push.ensures.ok
      ∙ ap (λ (x : ℕ). (c.loop-i.requests ++ c.in_ok-request_of.field-0 ∷ [])
      ++ requests_for x (c.loop-i.i + 1) (c.args.count - (c.loop-i.i + 1))) c.in_ok-request_of.ensures.state
      ∙ next_request c.loop-i.draws.state c.loop-i.i c.args.count c.loop-i.requests _ c.in_ok-request_of.field-0
      c.loop-i-test.true (c.in_ok-request_of.ensures.request
      ∙ ap (λ (i : ℕ). request_for c.loop-i.draws.state i) c.from.ensures) c.loop-i.invariant.made;
  left =
      ap (λ (x : ℕ). draws_after (c.args.count - (c.loop-i.i + 1)) x) c.in_ok-request_of.ensures.state
      ∙ next_state c.loop-i.draws.state c.loop-i.i c.args.count _ c.loop-i-test.true c.loop-i.invariant.left;
}
