-- What the function of this folder owes, proved.
use Rattle.std.proofs.Common.{◌≡◌, ◌++◌, List, sym, ap, subst, ◌∙◌, false}
use Rattle.std.specs.List.{list_any}
use Rattle.std.specs.Result.{OnOk}
use Rattle.std.proofs.lemmas.List.{append-nil}
use Rattle.nz_base.specs.declared.key.Id.{Id}
use Rattle.nz_text.specs.Text.{accepts_it}
use Rattle.nz_check.proofs.OpenPass.{closed, open_still, away_of_some, away_of_none}
use Rattle.nz_check.proofs.opens.add_if_open.Goals as goal
use Rattle.nz_check.proofs.opens.add_if_open.Goals.{in_default-of-via-in-Some+else-sent, in_default-of-via-in_default-of}

pub returns-in-Some : goal.returns-in-Some
returns-in-Some c = λ H E h.
    sym (append-nil c.args.ids.now)
    ∙ ap (λ (ids : List Id). c.args.ids.now ++ ids)
    (sym (closed H E c.args.noted.now c.args.event.now c.in-Sent.id _ c.in-Some.sent h c.in-Sent.is c.in-Some.ensures c.if-sent.true))

pub returns-in_default-of : goal.returns-in_default-of
returns-in_default-of c = λ H E h.
    let away : list_any (accepts_it c.in-Sent.id) E ≡ false = elim c.in_default-of.branch [
      | in_default-of-via-in-Some+else-sent w ↦
          away_of_some H E c.args.noted.now c.in-Sent.id w.in-Some.sent h w.in-Some.ensures w.if-sent.false
      | in_default-of-via-in_default-of w ↦
          away_of_none H E c.args.noted.now c.in-Sent.id h (sym c.of.ensures ∙ w.in_default-of.is)
    ] in
    subst (λ (ids : List Id). OnOk c.push.result (c.push.new.self ≡ c.args.ids.now ++ ids))
    (sym (open_still H E c.args.noted.now c.args.event.now c.in-Sent.id _ c.in-Sent.is away)) c.push.ensures.ok
