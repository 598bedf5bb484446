-- What the function of this folder owes, proved.
use Rattle.std.proofs.Common.{◌≡◌, ◌+◌, ◌∙◌, List, ap, subst, sym, arith}
use Rattle.nz_machine.specs.declared.event.Record.{Record}
use Rattle.nz_fabric.specs.declared.threads.batch.Batch.{Batch}
use Rattle.nz_fabric.specs.threads.Shared.{Holding, IsNextOf, Shared, booking_of, shared_of, with_opened}
use Rattle.nz_fabric.specs.threads.Takes.{batch_of, with_one}
use Rattle.nz_fabric.proofs.several_threads.Batching.{next_batch}
use Rattle.nz_fabric.proofs.several_threads.Sharing.{booked_lost, booked_taken, booked_room}
use Rattle.nz_fabric.proofs.threads.fabric_state.FabricState.take.Goals as goal

pub invariant_of-self-2 : goal.invariant_of-self-2
invariant_of-self-2 g c =
    let f = c.self.inside in
    let new = c.in_ok-actor.ensures in
    let k = booking_of f.ticks f.before c.reserve_to.new.self f.agenda f.batches f.book.total in
    let b = batch_of (f.batches.taken + 1) c.in_ok-actor.actor c.in_ok-actor.events in
    let next : IsNextOf (shared_of k) b = next_batch (shared_of k) b.actor b.events c.if-self.false c.self.invariant.1.accounted.next new.some new.run in
    let within = next.within in
    let taken : c.take.new.self ≡ with_one b f.batches = c.in-Ok.ensures.1 ∙ ap (λ (b : Batch). with_one b f.batches) c.in-Ok.ensures.0 in (
      c.self.invariant.0,
      rw (taken, new.ok)
          (booked_taken _ k b c.add.new.self.total
          (booked_room _ _ c.reserve_to.new.self c.self.invariant.1 c.reserve_to.ensures.records c.reserve_to.ensures.room) next c.add.ensures.total
          (omega (arith, within, c.in_ok-reserve_to.ensures.all, c.in_ok-reserve_to.ensures.few, c.len.ensures, c.saturating_add.ensures))
          (omega (arith, within, c.in_ok-reserve_to.ensures.few, c.len.ensures, c.saturating_add.ensures))),
    )

pub invariant_of-self-in_default : goal.invariant_of-self-in_default
invariant_of-self-in_default g c =
    let f = c.self.inside in
    let new = c.in_ok-actor.ensures in
    let k = booking_of f.ticks f.before c.reserve_to.new.self f.agenda f.batches f.book.total in
    let b = batch_of (f.batches.taken + 1) c.in_ok-actor.actor c.in_ok-actor.events in
    let next : IsNextOf (shared_of k) b = next_batch (shared_of k) b.actor b.events c.if-self.false c.self.invariant.1.accounted.next new.some new.run in
    let within = next.within in (
      c.self.invariant.0,
      rw (c.in_default.ensures, new.ok)
          (booked_lost _ k b (booked_room _ _ c.reserve_to.new.self c.self.invariant.1 c.reserve_to.ensures.records c.reserve_to.ensures.room) next
          (omega (arith, within, c.in_ok-reserve_to.ensures.all, c.in_ok-reserve_to.ensures.few, c.len.ensures, c.saturating_add.ensures))
          (omega (arith, within, c.in_ok-reserve_to.ensures.few, c.len.ensures, c.saturating_add.ensures))),
    )

pub returns : goal.returns
returns g c =
    let f = c.self.inside in
    let new = c.in_ok-actor.ensures in
    let k = booking_of f.ticks f.before f.records f.agenda f.batches f.book.total in
    let b = batch_of (f.batches.taken + 1) c.in_ok-actor.actor c.in_ok-actor.events in
    let next : IsNextOf (shared_of k) b = next_batch (shared_of k) b.actor b.events c.if-self.false c.self.invariant.1.accounted.next new.some new.run in
    let taken : c.take.new.self ≡ with_one b f.batches = c.in-Ok.ensures.1 ∙ ap (λ (b : Batch). with_one b f.batches) c.in-Ok.ensures.0 in (
      rw (taken, new.ok)
          (ap (λ (rs : List Record). with_opened b (shared_of (record k { records = record k.records { records = rs } }))) c.reserve_to.ensures.records
          ∙ ap (λ (b : Batch). with_opened b (shared_of k)) (sym c.in-Ok.ensures.0) ∙ ap (with_opened c.in-Ok.batch) c.self.view_is),
      rw (c.add.ensures.amount, c.add.ensures.parts) (ap (λ (h : Holding). record h { amount = h.amount + 1 }) c.share.view_is),
      subst (λ (f : Shared). IsNextOf f c.in-Ok.batch) c.self.view_is (subst (IsNextOf (shared_of k)) (sym c.in-Ok.ensures.0) next),
    )
