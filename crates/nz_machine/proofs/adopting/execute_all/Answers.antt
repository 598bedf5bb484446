-- What the function of this folder owes, proved.
use Rattle.std.proofs.Common.{◌∙◌, sym}
use Rattle.nz_machine.proofs.facts.Stores.{no_store}
use Rattle.nz_machine.proofs.facts.Collects.{no_replies}
use Rattle.nz_machine.proofs.adopting.execute_all.Goals as goal

pub loop-entry-init : goal.loop-entry-init
loop-entry-init c = record { store = c.new-store.ensures ∙ sym no_store; answers = c.in_ok-answers.ensures.items ∙ sym no_replies }
