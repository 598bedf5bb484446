-- What the function of this folder owes, proved.
use Rattle.std.proofs.Common.{◌≤◌, map, ap, ◌∙◌, sym, subst, List}
use Rattle.nz_base.specs.declared.limits.TheConstants.{MAX_VIEW}
use Rattle.nz_merge.specs.Merged.{greatest}
use Rattle.nz_machine.specs.declared.data.ToldView.{ToldView}
use Rattle.nz_machine.proofs.facts.WordsKeepFacts.{latest_low}
use Rattle.nz_machine.proofs.state.ReplicaState.latest_view.Goals as goal

pub returns-clause-last : goal.returns-clause-last
returns-clause-last c =
    let is = c.latest.ensures ∙ ap (λ (ts : List ToldView). greatest (map (λ t. t.view) ts)) c.as_slice.ensures in
    subst (λ n. n ≤ MAX_VIEW) (sym is) (latest_low _ _ _ c.self.invariant.facts)
