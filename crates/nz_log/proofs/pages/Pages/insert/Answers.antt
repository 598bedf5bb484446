-- What the function of this folder owes, proved.
use Rattle.std.proofs.Common.{ap, ◌∙◌, sym, List, ◌∷◌, ◌++◌, [], take, drop, append_assoc}
use Rattle.std.proofs.lemmas.List.{take-append-le, drop-append-le}
use Rattle.nz_base.specs.declared.key.Entry.{Entry}
use Rattle.nz_log.proofs.Moving.{last_away}
use Rattle.nz_log.proofs.pages.Pages.insert.Goals as goal

pub returns-clause-ok : goal.returns-clause-ok
returns-clause-ok c =
    let es = c.args.self.now in
    let place = c.args.place in
    let hole = c.no_request.result in
    last_away c.move_on.new.self (take place es ++ c.args.entry ∷ drop place es) c.move_on.result hole
    (c.move_on.ensures
    ∙ ap (λ (xs : List Entry). take place xs ++ c.args.entry ∷ drop place xs) c.in_ok-push.ensures.ok
    ∙ ap (λ (xs : List Entry). xs ++ c.args.entry ∷ drop place (es ++ hole ∷ [])) (take-append-le place es (hole ∷ []) c.requires)
    ∙ ap (λ (xs : List Entry). take place es ++ c.args.entry ∷ xs) (drop-append-le place es (hole ∷ []) c.requires)
    ∙ sym (append_assoc (take place es) (c.args.entry ∷ drop place es) (hole ∷ [])))
