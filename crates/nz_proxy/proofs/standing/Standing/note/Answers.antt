-- What the function of this folder owes, proved.
use Rattle.std.proofs.Common.{ap, sym, subst, ◌∙◌, Some}
use Rattle.std.specs.List.{AllByRecursion}
use Rattle.nz_store.specs.declared.command.Answer.{Answer}
use Rattle.nz_quorum.specs.Tallies.{TallyData}
use Rattle.nz_proxy.specs.declared.standing.Standing.{Standing}
use Rattle.nz_proxy.specs.Standings.{IsFitStanding, HasFitAnswer}
use Rattle.nz_proxy.proofs.Fitting.{fit_note, decided_fits}
use Rattle.nz_proxy.proofs.standing.Standing.note.Goals as goal

pub returns-in_ok-given-in-Some-clause-fit : goal.returns-in_ok-given-in-Some-clause-fit
returns-in_ok-given-in-Some-clause-fit c = λ f fit all.
    let tally = c.in-Open.tally in
    let open_fit = subst (λ (s : Standing). IsFitStanding f s) c.in-Open.is all in
    let noted =
    subst (λ (t : TallyData). AllByRecursion HasFitAnswer t.replies) (sym c.in_ok-note-in-Open.ensures.ok)
    (fit_note tally.replies c.args.reply open_fit.1 fit) in
    decided_fits c.note.new.self.f c.note.new.self.replies _ c.in_ok-answer-in-Some.answer noted
    (sym c.in-Some.ensures.chosen) (c.in-Some.ensures.answer ∙ ap (λ (a : Answer). Some a) (sym c.in_ok-answer-in-Some.ensures))
