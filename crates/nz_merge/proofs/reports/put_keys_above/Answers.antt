-- What the function of this folder owes, proved.
use Rattle.std.proofs.Common.{◌+◌, ap, refl, sym, ◌∙◌, drop, BTreeSet}
use Rattle.std.specs.List.{filter}
use Rattle.nz_base.specs.declared.key.Key.{Key}
use Rattle.nz_base.specs.Log.{keys_of, is_above_last}
use Rattle.nz_merge.specs.Merged.{put_all_in_order}
use Rattle.nz_merge.proofs.Sets.{put_step, leave_step}
use Rattle.nz_merge.proofs.reports.put_keys_above.Goals.{then-is_above+in_ok-insert, else-is_above}
use Rattle.nz_merge.proofs.reports.put_keys_above.Goals as goal

pub loop-entry-preserved : goal.loop-entry-preserved
loop-entry-preserved c =
    elim c.if-is_above.branch [
      | then-is_above+in_ok-insert w ↦
          put_step (is_above_last (keys_of c.args.base.now)) _ (λ a b. refl) c.loop-entry.keys.keys _ _ c.args.log.now
          c.loop-entry.entry-index c.entry-item.result c.loop-entry-test.true c.entry-item.is (sym c.is_above.ensures ∙ w.if-is_above.true)
          (ap (λ (s : BTreeSet Key). s.keys) w.keys-is ∙ w.in_ok-insert.ensures.keys) c.loop-entry.invariant
      | else-is_above w ↦
          ap (λ (s : BTreeSet Key). put_all_in_order s.keys
          (filter (is_above_last (keys_of c.args.base.now)) (keys_of (drop (c.loop-entry.entry-index + 1) c.args.log.now)))) w.keys-is
          ∙ leave_step (is_above_last (keys_of c.args.base.now)) c.loop-entry.keys.keys _ c.args.log.now c.loop-entry.entry-index
          c.entry-item.result c.loop-entry-test.true c.entry-item.is (sym c.is_above.ensures ∙ w.if-is_above.false) c.loop-entry.invariant
    ]
