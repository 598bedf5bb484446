-- What the function of this folder owes, proved.
use Rattle.std.proofs.Common.{◌≡◌, ap, sym, ◌∙◌, subst, drop, BTreeSet}
use Rattle.std.proofs.lemmas.Bool.{eq-eqb, ne_eqb}
use Rattle.nz_base.specs.declared.key.Key.{Key}
use Rattle.nz_base.specs.Log.{keys_of, is_above_last}
use Rattle.nz_merge.specs.Merged.{put_all_in_order, of_view, keys_above}
use Rattle.nz_merge.proofs.Sets.{keys_passing, log_step, skip_step}
use Rattle.nz_merge.proofs.reports.keys_above.Goals.{then-report-view+in_ok-put_keys_above, else-report-view}
use Rattle.nz_merge.proofs.reports.keys_above.Goals as goal

pub loop-report-preserved : goal.loop-report-preserved
loop-report-preserved c =
    elim c.if-report-view.branch [
      | then-report-view+in_ok-put_keys_above w ↦
          log_step (is_above_last (keys_of c.args.base.now)) c.args.view c.loop-report.keys.keys c.if-report-view.keys.keys _ c.args.reports.now
          c.loop-report.report-index c.report-item.result c.loop-report-test.true c.report-item.is
          (eq-eqb c.report-item.result.last c.args.view w.if-report-view.true)
          (ap (λ (s : BTreeSet Key). s.keys) w.keys-is ∙ rw (← w.as_slice.ensures) w.in_ok-put_keys_above.ensures) c.loop-report.invariant
      | else-report-view w ↦
          skip_step (is_above_last (keys_of c.args.base.now)) c.args.view c.if-report-view.keys.keys _ c.args.reports.now c.loop-report.report-index
          c.report-item.result c.loop-report-test.true c.report-item.is
          (ne_eqb c.report-item.result.last c.args.view w.if-report-view.false)
          (subst (λ (s : BTreeSet Key). put_all_in_order s.keys
          (keys_passing (is_above_last (keys_of c.args.base.now)) (of_view c.args.view (drop c.loop-report.report-index c.args.reports.now)))
          ≡ keys_above (keys_of c.args.base.now) (of_view c.args.view c.args.reports.now)) (sym w.keys-is) c.loop-report.invariant)
    ]
