-- What the function of this folder owes, proved.
use Rattle.std.proofs.Common.{ap, ◌∙◌, subst, ℕ}
use Rattle.std.specs.Prelude.{IfSome}
use Rattle.std.specs.Option.{option_map}
use Rattle.nz_machine.specs.rules.Proxies.{standing_of}
use Rattle.nz_proxy.specs.Models.{ProxyModel}
use Rattle.nz_proxy.specs.Standings.{known_standing, IsFitStanding}
use Rattle.nz_proxy.proofs.Tables.{known_lookup, known_borrowed, fit_lookup, fit_borrowed}
use Rattle.nz_proxy.proofs.state.ProxyState.standing.Goals as goal

pub returns-clause-value : goal.returns-clause-value
returns-clause-value c =
    known_borrowed c.get.result ∙ (ap (option_map known_standing) c.get.ensures.value
    ∙ (known_lookup c.args.id c.self.inside.standings.entries ∙ ap (λ (s : ProxyModel). standing_of s.state c.args.id) c.self.view_is))

pub returns-clause-fit : goal.returns-clause-fit
returns-clause-fit c =
    let fit =
    fit_borrowed c.self.inside.cluster c.args.id c.get.result _ c.get.ensures.value
    (fit_lookup c.self.inside.cluster c.args.id c.self.inside.standings.entries c.self.invariant.standings) in
    subst (λ (f : ℕ). IfSome c.get.result (λ s. IsFitStanding f s.now)) (ap (λ (s : ProxyModel). s.f) c.self.view_is) fit
