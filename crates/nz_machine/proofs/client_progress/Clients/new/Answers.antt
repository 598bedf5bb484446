-- What the function of this folder owes, proved.
use Rattle.std.proofs.Common.{◌++◌, ◌∷◌, [], List, replicate, ap, subst, sym, ◌∙◌, ◌≡◌, arith, length}
use Rattle.std.proofs.lemmas.List.{replicate_more}
use Rattle.nz_machine.specs.runs.Schedule.{group_of}
use Rattle.nz_machine.specs.journals.ClientProgress.{Progress, first_progress, AreAfter}
use Rattle.nz_machine.proofs.journals.EventsAreRead.{first_after}
use Rattle.nz_machine.proofs.client_progress.Clients.new.Goals as goal

pub loop-preserved : goal.loop-preserved
loop-preserved c =
    c.in_ok-push.ensures.items ∙ ap (λ (ps : List Progress). ps ++ c.new.result ∷ []) c.loop.invariant
    ∙ ap (λ (p : Progress). replicate c.loop.counter first_progress ++ p ∷ []) c.new.ensures
    ∙ replicate_more c.loop.counter first_progress

pub returns : goal.returns
returns c =
    let test = c.loop-test.false in
    let most = c.loop.auto.counter-end in
    let is = c.len-end.ensures in
    let g = group_of c.args.scenario.now in
    let count : c.loop.counter ≡ length g.scripts = omega (arith, test, most, is) in
    subst (λ (ps : List Progress). AreAfter g [] ps) (sym (c.loop.invariant ∙ ap (λ n. replicate n first_progress) count)) (first_after g)
