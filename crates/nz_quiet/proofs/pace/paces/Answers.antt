-- What the function of this folder owes, proved.
use Rattle.std.proofs.Common.{◌∙◌}
use Rattle.std.proofs.lemmas.Result.{IfOk-weaker}
use Rattle.std.specs.HashMap.{get}
use Rattle.nz_base.specs.Key.{id_eq}
use Rattle.nz_quiet.proofs.RunPaces.{run_paces}
use Rattle.nz_quiet.proofs.pace.paces.Goals as goal

pub returns : goal.returns
returns c =
    IfOk-weaker c.paces_of.result _ _
    (λ paces is g J events. is ∙ run_paces g J c.args.events.now (get id_eq c.in_ok-accepted.accepted) events c.in_ok-accepted.ensures) c.paces_of.ensures
