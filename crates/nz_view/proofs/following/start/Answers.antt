-- What the function of this folder owes, proved.
use Rattle.std.proofs.Common.{◌≡◌, length, min, max, refl, sym, subst, ◌∙◌, arith}
use Rattle.std.proofs.lemmas.Result.{on_ok_weaker}
use Rattle.nz_machine.specs.rules.Facts.{IsCarried}
use Rattle.nz_machine.specs.rules.Adopting.{normal_in}
use Rattle.nz_machine.proofs.facts.Carried.{carried_of_fit}
use Rattle.nz_view.proofs.following.start.Goals as goal

pub adopt_log-requires-clause-log : goal.adopt_log-requires-clause-log
adopt_log-requires-clause-log c =
    subst IsCarried (sym c.replace-log.ensures.value) (carried_of_fit c.args.body.now.commit c.args.body.now.entries c.requires.fits.1.1.1)

pub returns : goal.returns
returns c =
    let s = c.args.state.now in
    let b = c.args.body.now in
    let committed : c.min-commit.result ≡ min (length b.entries) (max s.state.commit b.commit) =
    omega (arith, c.min-commit.ensures, c.max.ensures, c.commit.ensures, c.len.ensures) in
    on_ok_weaker c.adopt_log.result
    (λ done. record {
      state = done ∙ (λ i. record s { state = normal_in s.state b.view (c.replace-log.ensures.value i) (committed i) });
      silent = refl;
    })
    c.adopt_log.ensures
