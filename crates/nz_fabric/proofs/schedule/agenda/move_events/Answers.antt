-- What the function of this folder owes, proved.
use Rattle.std.proofs.Common.{◌≡◌, ◌∙◌, ◌+◌, arith, drop, subst, ℕ}
use Rattle.std.proofs.lemmas.List.{length-set}
use Rattle.std.specs.Prelude.{slice_set}
use Rattle.nz_fabric.proofs.calendars.Agendas.{left_taken, moved_next}
use Rattle.nz_fabric.proofs.schedule.agenda.move_events.Goals as goal

pub loop-place-preserved : goal.loop-place-preserved
loop-place-preserved c =
    let kept = c.loop-place.invariant in
    let before = c.loop-place.items.items in
    let all = c.args.items.now.items in
    let k = c.loop-place.place in
    let n = c.args.from + k in
    record {
      len = omega (arith, kept.len, c.push_reserved.ensures.len);
      room = omega (arith, kept.room, c.push_reserved.ensures.capacity);
      moved =
          c.push_reserved.ensures.items
          ∙ moved_next c.loop-place.events.items _ before all c.args.from k c.index_mut.result.now kept.moved kept.left
          (omega (arith, c.requires.within, c.loop-place-test.true)) c.index_mut.ensures.value c.replace.ensures.value;
      left =
          subst (λ (m : ℕ). drop m (slice_set before n (record c.index_mut.result.now { event = c.replace.new.dest })) ≡ drop m all) (omega arith)
          (left_taken before all n _ kept.left);
      long = length-set before n _ ∙ kept.long;
    }
