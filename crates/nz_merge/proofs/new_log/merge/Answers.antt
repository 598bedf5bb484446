-- What the function of this folder owes, proved.
use Rattle.std.proofs.Common.{◌≡◌, ◌&&◌, not, subst, List, ◌∙◌, arith}
use Rattle.std.proofs.lemmas.Map.Iter.{rest_more, rest_all}
use Rattle.std.specs.Map.Iter.{deref}
use Rattle.nz_base.specs.Log.{is_above_last, keys_of, has_id}
use Rattle.nz_base.specs.Key.{id_of}
use Rattle.nz_base.specs.declared.key.Entry.{Entry}
use Rattle.nz_merge.proofs.Turns.{start, taken, left_few, left_other, ended, same_merge}
use Rattle.nz_merge.proofs.new_log.merge.Goals.{else-count_holders-least-via-then-count_holders-least+else-may_follow}
use Rattle.nz_merge.proofs.new_log.merge.Goals.{else-count_holders-least-via-else-count_holders-least}
use Rattle.nz_merge.proofs.new_log.merge.Goals as goal

pub loop-key-init : goal.loop-key-init
loop-key-init c =
    start _ _ _ c.in_ok-keys.keys.keys _ c.in_ok-log.ensures c.into_iter-key-iterator.ensures.into_iter_gives.0
    (rw (← c.as_slice.ensures) c.in_ok-keys.ensures)

pub loop-key-preserved-then-may_follow : goal.loop-key-preserved-then-may_follow
loop-key-preserved-then-may_follow c =
    let first = rest_more deref c.loop-key.key-iterator c.next.new.self c.next.result c.in-Some.key c.in-Some.is c.next.ensures.steps in
    taken _ _ c.loop-key.log _ _ c.loop-key.key-iterator _ c.in-Some.key.now c.in_ok-copy_entry.field-0
    c.count_holders.result c.may_follow.result first c.count_holders.ensures c.if-count_holders-least.true
    (subst (λ (log : List Entry). c.may_follow.result
    ≡ (is_above_last (keys_of log) c.in-Some.key.now && not (has_id (keys_of log) (id_of c.in-Some.key.now))))
    c.as_slice-then-count_holders-least.ensures c.may_follow.ensures) c.if-may_follow.true c.in_ok-copy_entry.ensures c.in_ok-push.ensures.ok
    c.loop-key.invariant

pub loop-key-preserved : goal.loop-key-preserved
loop-key-preserved c =
    let first = rest_more deref c.loop-key.key-iterator c.next.new.self c.next.result c.in-Some.key c.in-Some.is c.next.ensures.steps in
    elim c.else-count_holders-least.branch [
      | else-count_holders-least-via-then-count_holders-least+else-may_follow w ↦
          left_other _ _ c.loop-key.log _ c.loop-key.key-iterator _ c.in-Some.key.now c.count_holders.result
          w.may_follow.result first c.count_holders.ensures w.if-count_holders-least.true
          (subst (λ (log : List Entry). w.may_follow.result
          ≡ (is_above_last (keys_of log) c.in-Some.key.now && not (has_id (keys_of log) (id_of c.in-Some.key.now))))
          w.as_slice-then-count_holders-least.ensures w.may_follow.ensures) w.if-may_follow.false c.loop-key.invariant
      | else-count_holders-least-via-else-count_holders-least w ↦
          left_few _ _ c.loop-key.log _ c.loop-key.key-iterator _ c.in-Some.key.now c.count_holders.result first
          c.count_holders.ensures w.if-count_holders-least.false c.loop-key.invariant
    ]

pub returns : goal.returns
returns c =
    let none = rest_all deref c.loop-key.key-iterator c.next.new.self c.next.result c.in-None.is c.next.ensures.steps in
    ended _ _ c.loop-key.log _ c.loop-key.key-iterator none c.loop-key.invariant
    ∙ same_merge _ c.args.cluster c.greatest_last-view.result _ c.args.reports.now
    (omega (arith, c.from-least.ensures, c.div_ceil.ensures, c.f.ensures.value)) c.as_slice-reports.ensures.value c.greatest_last-view.ensures
