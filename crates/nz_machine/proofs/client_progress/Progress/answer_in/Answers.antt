-- What the function of this folder owes, proved.
use Rattle.std.proofs.Common.{◌∙◌, sym, ap}
use Rattle.nz_base.specs.declared.actor.Actor.TheVariants.{Proxy}
use Rattle.nz_msg.specs.declared.message.AnswerBody.{AnswerBody}
use Rattle.nz_msg.specs.declared.message.Message.TheVariants.{Answer}
use Rattle.nz_machine.specs.journals.ClientProgress as client_progress
use Rattle.nz_machine.proofs.client_progress.Progress.answer_in.Goals as goal

pub returns-in-Answer : goal.returns-in-Answer
returns-in-Answer c =
    let progress = c.args.self.now in
    c.if_waiting.ensures c.in-Proxy.field-0
    ∙ ap (λ (b : AnswerBody). client_progress.answer_in progress (Proxy c.in-Proxy.field-0) (Answer b)) c.in-Answer.body-is
    ∙ sym (ap (client_progress.answer_read progress) c.in-Some.is ∙ (λ i. client_progress.answer_in progress (c.in-Proxy.is i) (c.in-Answer.is i)))
