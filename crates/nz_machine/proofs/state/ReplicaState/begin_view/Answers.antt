-- What the function of this folder owes, proved.
use Rattle.std.proofs.Common.{◌≡◌, ◌≤◌, true, false, length, map, sym, ap, subst, ◌∙◌, arith}
use Rattle.std.specs.Prelude.{nat_lt}
use Rattle.std.proofs.lemmas.Bool.Decides.{nat_tests}
use Rattle.nz_base.specs.declared.limits.TheConstants.{MAX_ENTRIES}
use Rattle.nz_merge.specs.declared.report.Report.{Report}
use Rattle.nz_merge.specs.Merged.{greatest, merged}
use Rattle.nz_machine.specs.rules.State.{ReplicaData}
use Rattle.nz_machine.specs.rules.Facts.{ReplicaModel, HasFacts, IsCarried}
use Rattle.nz_machine.specs.rules.Begins.{with_own_report, after_begin}
use Rattle.nz_machine.proofs.facts.WordsKeepFacts.{merged_carried}
use Rattle.nz_machine.proofs.facts.ViewInvariant.{begin_none, begun_state}
use Rattle.nz_machine.proofs.state.ReplicaState.begin_view.Goals as goal

pub returns-then-len-gt-MAX_ENTRIES-clause-state : goal.returns-then-len-gt-MAX_ENTRIES-clause-state
returns-then-len-gt-MAX_ENTRIES-clause-state c =
    let v : ReplicaModel = c.args.self.now in
    let log : c.in_ok-log.log ≡ merged v.f (with_own_report v.me v.state) =
    c.in_ok-log.ensures ∙ (λ i. merged (c.self.view_is i).f (c.in_ok-reports.ensures.value i)) in
    let long = ap length log in
    let is = c.len.ensures in
    let more = c.if-len-gt-MAX_ENTRIES.true in
    let full : nat_lt MAX_ENTRIES (length (merged v.f (with_own_report v.me v.state))) ≡ true = grind (arith, nat_tests, long, is, more) in
    ap (λ (t : ReplicaData). record { f = v.f; me = v.me; state = t }) (sym (begin_none v.f v.me v.state full))

pub begin_with-requires : goal.begin_with-requires
begin_with-requires c =
    let v : ReplicaModel = c.args.self.now in
    let log : c.in_ok-log.log ≡ merged v.f (with_own_report v.me v.state) =
    c.in_ok-log.ensures ∙ (λ i. merged (c.self.view_is i).f (c.in_ok-reports.ensures.value i)) in
    let long = ap length log in
    let is = c.len.ensures in
    let more = c.if-len-gt-MAX_ENTRIES.false in
    let few : length (merged v.f (with_own_report v.me v.state)) ≤ MAX_ENTRIES = omega (arith, long, is, more) in
    let facts = subst (λ (m : ReplicaModel). HasFacts m.f m.me m.state) c.self.view_is c.self.invariant.facts in
    subst IsCarried (sym log) (merged_carried v.f v.me v.state facts few)

pub returns-clause-state : goal.returns-clause-state
returns-clause-state c =
    let v : ReplicaModel = c.args.self.now in
    let log : c.in_ok-log.log ≡ merged v.f (with_own_report v.me v.state) =
    c.in_ok-log.ensures ∙ (λ i. merged (c.self.view_is i).f (c.in_ok-reports.ensures.value i)) in
    let known : c.greatest_commit.result ≡ greatest (map (λ (x : Report). x.commit) (with_own_report v.me v.state)) =
    c.greatest_commit.ensures ∙ (λ i. greatest (map (λ (x : Report). x.commit) ((c.as_slice.ensures.value ∙ c.in_ok-reports.ensures.value) i))) in
    let long = ap length log in
    let is = c.len.ensures in
    let more = c.if-len-gt-MAX_ENTRIES.false in
    let room : nat_lt MAX_ENTRIES (length (merged v.f (with_own_report v.me v.state))) ≡ false = grind (arith, nat_tests, long, is, more) in
    c.in_ok-begin_with.ensures
    ∙ ap (λ (t : ReplicaData). record { f = v.f; me = v.me; state = t })
    ((λ i. after_begin v.f v.state (log i) (known i)) ∙ sym (begun_state v.f v.me v.state room))
