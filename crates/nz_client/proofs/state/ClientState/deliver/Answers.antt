-- What the function of this folder owes, proved.
use Rattle.std.proofs.Common.{List, OnOk, subst, sym, ap, ◌∙◌}
use Rattle.nz_base.specs.declared.actor.Actor.{Actor}
use Rattle.nz_machine.specs.rules.State.{ClientData, Out}
use Rattle.nz_machine.specs.rules.Step.{envelope_for}
use Rattle.nz_client.specs.Models.{ClientDoes}
use Rattle.nz_client.proofs.Passing.{delivered}
use Rattle.nz_client.proofs.state.ClientState.deliver.Goals as goal

pub returns-in-Some-clause-rule : goal.returns-in-Some-clause-rule
returns-in-Some-clause-rule c = λ g is.
    let s = c.args.self.now in
    let e = ap (λ (a : Actor). envelope_for a c.args.p.now) (sym c.actor.ensures.actor) ∙ sym c.in_ok-heard.ensures.value ∙ c.in-Some.is in
    subst (λ (t : ClientData × List Out). OnOk c.handle.result (ClientDoes s c.handle.new.self c.args.sends.now c.handle.new.sends t))
    (sym (delivered g s c.args.p.now c.in-Some.envelope is e)) c.handle.ensures.rule
