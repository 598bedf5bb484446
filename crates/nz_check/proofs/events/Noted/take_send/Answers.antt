-- What the function of this folder owes, proved.
use Rattle.std.proofs.Common.{sym, ap, ◌∙◌, is_some}
use Rattle.nz_check.proofs.Taking.{send_repeats, send_is_new}
use Rattle.nz_check.proofs.events.Noted.take_send.Goals as goal

pub returns-then-is_some : goal.returns-then-is_some
returns-then-is_some c = λ p above command h long.
    send_repeats p above c.args.id command c.args.self.now c.args.self.now h
    (ap is_some (sym c.of.ensures) ∙ sym c.is_some.ensures ∙ c.if-is_some.true)

pub returns : goal.returns
returns c = λ p above command h long.
    send_is_new p above c.args.id command c.args.place c.args.self.now c.note.new.self h long
    (ap is_some (sym c.of.ensures) ∙ sym c.is_some.ensures ∙ c.if-is_some.false) c.in_ok-note.ensures.each c.note.ensures.reach
