-- What the function of this folder owes, proved.
use Rattle.std.proofs.Common.{List, ◌∷◌, map, sym, subst, ◌∙◌}
use Rattle.nz_merge.specs.Merged.{AreFit}
use Rattle.nz_merge.specs.Sender.{HaveOwnSenders}
use Rattle.nz_machine.specs.declared.data.CollectedReport.{CollectedReport}
use Rattle.nz_machine.specs.rules.State.{ReplicaData}
use Rattle.nz_machine.specs.rules.Parts.{data_of}
use Rattle.nz_machine.specs.rules.Begins.{own_report}
use Rattle.nz_machine.proofs.facts.WordsKeepFacts.{reports_fit, reports_own}
use Rattle.nz_machine.proofs.state.ReplicaState.reports.Goals as goal

pub all_reports-requires : goal.all_reports-requires
all_reports-requires c =
    let s : ReplicaData = data_of c.self.inside.parts in
    subst (λ (rs : List CollectedReport). HaveOwnSenders (own_report c.self.inside.parts.me s ∷ map (λ (r : CollectedReport). r.report) rs))
    (sym c.deref.ensures.value)
    (reports_own c.self.inside.parts.cluster c.self.inside.parts.me s c.self.invariant.facts)

pub returns-clause-fit : goal.returns-clause-fit
returns-clause-fit c =
    let s : ReplicaData = data_of c.self.inside.parts in
    subst AreFit
    (sym (c.in_ok-reports.ensures
    ∙ (λ i. record {
      sender = c.self.inside.parts.me;
      last = c.self.inside.parts.last;
      synced = c.synced.ensures i;
      commit = c.self.inside.parts.commit;
      log = c.in_ok-entries.ensures i;
    }
    ∷ map (λ (r : CollectedReport). r.report) (c.deref.ensures.value i))))
    (reports_fit c.self.inside.parts.cluster c.self.inside.parts.me s c.self.invariant.facts)
