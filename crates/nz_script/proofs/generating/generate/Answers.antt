-- What the function of this folder owes, proved.
use Rattle.std.proofs.Common.{◌≡◌, length, arith, ap, ◌∙◌, List}
use Rattle.nz_script.proofs.Drawing.{length-requests_for}
use Rattle.nz_base.specs.declared.scenario.Request.{Request}
use Rattle.nz_script.proofs.generating.generate.Goals as goal

pub scripts_of-requires : goal.scripts_of-requires
scripts_of-requires c =
    let same : length c.as_slice.result.now ≡ c.args.count =
    ap (λ (l : List Request). length l) (c.as_slice.ensures ∙ c.in_ok-requests.ensures.requests) ∙ length-requests_for c.args.seed 0 c.args.count in
    omega (arith, same, c.requires.few)
