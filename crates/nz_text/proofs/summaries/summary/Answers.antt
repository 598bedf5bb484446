-- What the function of this folder owes, proved.
use Rattle.std.proofs.Common.{ap, ◌∙◌}
use Rattle.std.proofs.lemmas.Result.{IfOk-weaker}
use Rattle.nz_text.specs.Text.{summary_of}
use Rattle.nz_text.proofs.RunsPrinted.{printed_is}
use Rattle.nz_text.proofs.summaries.summary.Goals as goal

pub returns : goal.returns
returns c = IfOk-weaker c.count.result _ _ (λ bytes is g J events found.
    is ∙ ap summary_of (printed_is g J c.args.events.now _ c.args.history.now events found c.in_ok-unanswered.ensures)) c.count.ensures
