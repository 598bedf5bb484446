-- What the function of this folder owes, proved.
use Rattle.std.proofs.Common.{Some, ◌∙◌, sym, ap}
use Rattle.std.specs.Option.{option_map}
use Rattle.nz_machine.specs.runs.Events.{id_at}
use Rattle.nz_audit.proofs.HeardParcels.{replica_about, proxy_about, client_about}
use Rattle.nz_audit.proofs.ReplyFields.{without_answer, reply_about, answer_about}
use Rattle.nz_audit.proofs.sources.wanted.shown_id.Goals as goal

pub returns-in_err-named_num-in-Proxy-Client : goal.returns-in_err-named_num-in-Proxy-Client
returns-in_err-named_num-in-Proxy-Client c = λ id is.
    c.from_residual.ensures
    ∙ ap (option_map (id_at c.in-Proxy-Client.client))
    (sym c.in_err-named_num-in-Proxy-Client.was ∙ c.named_num.ensures.shown)
    ∙ answer_about c.args.parcel.now c.in-Proxy-Client.field-0-0 c.in-Proxy-Client.client id
    c.named_num.ensures.bytes c.in-Proxy-Client.is-0 c.in-Proxy-Client.is-1 is

pub returns-then-shows_answer : goal.returns-then-shows_answer
returns-then-shows_answer c = λ id is.
    c.named_id.ensures.shown
    ∙ reply_about c.args.parcel.now c.in-Replica-Proxy.field-0-0 c.in-Replica-Proxy.field-0-1 id
    c.named_id.ensures.bytes c.in-Replica-Proxy.is-0 c.in-Replica-Proxy.is-1 is

pub returns-else-shows_answer : goal.returns-else-shows_answer
returns-else-shows_answer c = λ id is.
    sym (without_answer c.args.parcel.now c.in-Replica-Proxy.field-0-0 c.in-Replica-Proxy.field-0-1
    c.shows_answer.ensures.bytes c.in-Replica-Proxy.is-0 c.in-Replica-Proxy.is-1
    (sym c.shows_answer.ensures.shown ∙ c.if-shows_answer.false)) ∙ is

pub returns-in_ok-named_num-in-Proxy-Client : goal.returns-in_ok-named_num-in-Proxy-Client
returns-in_ok-named_num-in-Proxy-Client c = λ id is.
    ap Some c.id_of.ensures
    ∙ ap (option_map (id_at c.in-Proxy-Client.client))
    (sym c.in_ok-named_num-in-Proxy-Client.was ∙ c.named_num.ensures.shown)
    ∙ answer_about c.args.parcel.now c.in-Proxy-Client.field-0-0 c.in-Proxy-Client.client id
    c.named_num.ensures.bytes c.in-Proxy-Client.is-0 c.in-Proxy-Client.is-1 is

pub returns-in_default : goal.returns-in_default
returns-in_default c = λ id is. sym (replica_about c.args.parcel.now c.in_default.field-0-0 c.in_default.is-0 c.in_default.not-Proxy-1) ∙ is

pub returns-in_default-2 : goal.returns-in_default-2
returns-in_default-2 c = λ id is. sym (proxy_about c.args.parcel.now c.in_default.field-0-0 c.in_default.is-0 c.in_default.not-Client-1) ∙ is

pub returns-in_default-3 : goal.returns-in_default-3
returns-in_default-3 c = λ id is. sym (client_about c.args.parcel.now c.in_default.field-0-0 c.in_default.is-0) ∙ is
