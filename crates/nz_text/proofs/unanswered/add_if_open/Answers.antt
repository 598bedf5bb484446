-- What the function of this folder owes, proved.
use Rattle.std.proofs.Common.{◌≡◌, ◌++◌, List, true, false, sym, ap, subst, ◌∙◌}
use Rattle.std.specs.Result.{OnOk}
use Rattle.std.proofs.lemmas.List.{append-nil}
use Rattle.nz_base.specs.declared.key.Id.{Id}
use Rattle.nz_text.proofs.Opens.{open_is}
use Rattle.nz_text.proofs.unanswered.add_if_open.Goals as goal

pub returns-then-contains : goal.returns-then-contains
returns-then-contains c = λ E h.
    let ids_are =
    open_is E c.args.event.now c.in-Sent.id c.in-Sent.command true c.in-Sent.is
    (sym (h c.in-Sent.id) ∙ sym c.contains.ensures ∙ c.if-contains.true) in
    sym (append-nil c.args.ids.now) ∙ ap (λ (ids : List Id). c.args.ids.now ++ ids) (sym ids_are)

pub returns-else-contains : goal.returns-else-contains
returns-else-contains c = λ E h.
    let ids_are =
    open_is E c.args.event.now c.in-Sent.id c.in-Sent.command false c.in-Sent.is
    (sym (h c.in-Sent.id) ∙ sym c.contains.ensures ∙ c.if-contains.false) in
    subst (λ (ids : List Id). OnOk c.push.result (c.push.new.self ≡ c.args.ids.now ++ ids)) (sym ids_are) c.push.ensures.ok
