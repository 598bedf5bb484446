-- What the function of this folder owes, proved.
use Rattle.std.proofs.Common.{ℕ, Bool, List, ap, ◌∙◌, sym, subst}
use Rattle.std.specs.List.{AllByRecursion}
use Rattle.nz_base.specs.declared.key.Id.{Id}
use Rattle.nz_machine.specs.rules.State.{Standing as StandingModel}
use Rattle.nz_proxy.specs.Models.{ProxyModel}
use Rattle.nz_proxy.specs.declared.standing.Standing.{Standing}
use Rattle.nz_proxy.specs.Standings.{known_standings, IsFitStanding, IsFitEntry}
use Rattle.nz_proxy.proofs.Tables.{known_insert, fit_insert}
use Rattle.nz_proxy.proofs.state.ProxyState.set_standing.Goals as goal

pub invariant_of-self-2 : goal.invariant_of-self-2
invariant_of-self-2 c =
    let i = c.self.invariant in
    let fit = subst (λ (f : ℕ). IsFitStanding f c.args.standing) (sym (ap (λ (s : ProxyModel). s.f) c.self.view_is)) c.requires.fit in
    record {
      named = i.named;
      in_time = i.in_time;
      window = i.window;
      standings =
          subst (λ (es : List (Id × Standing)). AllByRecursion (IsFitEntry c.self.inside.cluster) es)
          (sym c.in_ok-insert.ensures.entries)
          (fit_insert c.self.inside.cluster c.self.inside.standings.entries c.args.id c.args.standing c.requires.client fit i.standings);
    }

abbrev with_standings : ℕ → ℕ → Bool → ℕ → List (List ℕ) → List (Id × StandingModel) → ProxyModel
with_standings f me down clock samples standings =
    record { f = f; me = me; state = record { is_down = down; clock = clock; samples = samples; standings = standings } }

pub returns-clause-state : goal.returns-clause-state
returns-clause-state c =
    let inside = c.self.inside in
    rw (← c.self.view_is) (ap (with_standings inside.cluster inside.me inside.is_down inside.clock inside.window)
    (ap known_standings c.in_ok-insert.ensures.entries ∙ known_insert inside.standings.entries c.args.id c.args.standing))
