-- What the function of this folder owes, proved.
use Rattle.std.proofs.Common.{ap, ◌∙◌}
use Rattle.std.proofs.lemmas.Result.{IfOk-weaker}
use Rattle.nz_text.specs.Text.{text_of_printed}
use Rattle.nz_text.proofs.RunsPrinted.{printed_is}
use Rattle.nz_text.proofs.texts.text.Goals as goal

pub returns : goal.returns
returns c = IfOk-weaker c.spell.result _ _ (λ bytes is g J events found.
    is ∙ ap text_of_printed (printed_is g J c.args.events.now _ c.args.history.now events found (c.as_slice.ensures ∙ c.in_ok-unanswered.ensures)))
    c.spell.ensures
