-- What the function of this folder owes, proved.
use Rattle.std.proofs.Common.{List, refl, ap, sym, subst, ◌∙◌}
use Rattle.std.proofs.lemmas.Result.{on_ok_weaker}
use Rattle.nz_base.specs.declared.key.Entry.{Entry}
use Rattle.nz_machine.specs.rules.Facts.{IsCarried}
use Rattle.nz_machine.specs.rules.Adopting.{normal_in}
use Rattle.nz_machine.proofs.facts.Carried.{carried_of_fit}
use Rattle.nz_rejoin.proofs.phases.start.Goals as goal

pub adopt_log-requires-clause-log : goal.adopt_log-requires-clause-log
adopt_log-requires-clause-log c =
    let b = c.args.body.now in
    subst IsCarried (sym c.replace-log.ensures.value) (carried_of_fit b.commit b.entries c.requires.fits.1.1.1.1)

pub returns : goal.returns
returns c =
    let s = c.args.state.now in
    let b = c.args.body.now in
    on_ok_weaker c.adopt_log.result
    (λ done. record {
      state = done ∙ ap (λ (es : List Entry). record s { state = normal_in s.state b.view es b.commit }) c.replace-log.ensures.value;
      silent = refl;
    })
    c.adopt_log.ensures
