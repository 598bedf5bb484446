-- What the function of this folder owes, proved.
use Rattle.std.proofs.Common.{◌≡◌, ◌<◌, ◌==◌, not, IsTrue, IsFalse, List, [], ◌∷◌, ◌++◌, length, eq-eqb, arith, sym, ap, subst, ◌∙◌}
use Rattle.std.specs.List.{filter}
use Rattle.std.proofs.lemmas.Bool.{ne_eqb}
use Rattle.std.proofs.lemmas.Bool.Decides.{nat_tests}
use Rattle.nz_base.specs.Cluster.{replica_count}
use Rattle.nz_base.specs.declared.actor.Actor.TheVariants.{Replica}
use Rattle.nz_base.specs.declared.key.Entry.{Entry}
use Rattle.nz_machine.specs.declared.data.CollectedReport.{CollectedReport}
use Rattle.nz_machine.specs.rules.State.{ReplicaData}
use Rattle.nz_machine.specs.rules.Facts.{ReplicaModel}
use Rattle.nz_machine.specs.rules.Step.{is_in_cluster}
use Rattle.nz_machine.specs.rules.Parts.{data_of}
use Rattle.nz_machine.proofs.facts.SentFields.{vector_counts}
use Rattle.nz_machine.proofs.moves.MoveFacts.{report_fits}
use Rattle.nz_machine.proofs.facts.ViewInvariant.{kept_collect}
use Rattle.nz_machine.proofs.state.ReplicaState.keep_report.Goals as goal

pub invariant_of-self-2 : goal.invariant_of-self-2
invariant_of-self-2 c =
    let s : ReplicaData = data_of c.self.inside.parts in
    let b = c.args.body.now in
    let sender = c.args.sender in
    let long = subst (λ (v : ReplicaModel). length b.vector ≡ replica_count v.f) (sym c.self.view_is) c.requires.from.size in
    let counters = vector_counts _ b.vector c.requires.fits.1.1.0 (eq-eqb (length b.vector) _ long) in
    let from = subst (λ (v : ReplicaModel). IsTrue (is_in_cluster v.f (Replica sender))) (sym c.self.view_is) c.requires.from.member in
    let member : sender < replica_count c.self.inside.parts.cluster = grind (arith, nat_tests, from) in
    let other : IsFalse (sender == c.args.self.now.me) = ne_eqb sender c.args.self.now.me (λ e. c.requires.from.other (ap Replica e)) in
    let fit = report_fits c.self.inside.parts.cluster c.self.inside.parts.me sender b
    member (subst (λ (v : ReplicaModel). IsFalse (sender == v.me)) (sym c.self.view_is) other) c.requires.fits counters in
    kept_collect c.self.inside.parts.cluster c.self.inside.parts.me s c.self.inside.parts.store sender b c.replace_report.new.reports.items c.self.invariant fit
    (c.in_ok-replace_report.ensures.ok
    ∙ ap (λ (es : List Entry). filter (λ (r : CollectedReport). not (r.report.sender == sender)) s.reports
    ++ record {
      vector = b.vector;
      report = record { sender = sender; last = b.last; synced = b.synced; commit = b.commit; log = es };
    } ∷ []) c.replace.ensures.value)
