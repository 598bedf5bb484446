-- What the function of this folder owes, proved.
use Rattle.std.proofs.Common.{◌∷◌, ◌++◌, ◌∙◌, [], List, length, sym, ap, subst, arith}
use Rattle.std.specs.Prelude.{reverse}
use Rattle.std.proofs.lemmas.Option.{get_or_from_slice_get}
use Rattle.nz_base.specs.declared.actor.Actor.{Actor}
use Rattle.nz_machine.specs.declared.event.Record.{Record}
use Rattle.nz_fabric.specs.threads.Records.{steps_of, with_step}
use Rattle.nz_fabric.specs.threads.Shared.{HasNext, Shared, booking_of, next_item, next_record, shared_of, with_next}
use Rattle.nz_fabric.specs.alone.States.{records_of}
use Rattle.nz_fabric.specs.threads.Steps.{step_of}
use Rattle.nz_fabric.proofs.one_thread.Held.{all_records}
use Rattle.nz_fabric.proofs.several_threads.Sharing.{booked_long, booked_next_item, next_record_is, with_next_is}
use Rattle.nz_fabric.proofs.threads.fabric_state.FabricState.push_next.Goals as goal

pub push-requires-clause-few : goal.push-requires-clause-few
push-requires-clause-few g c =
    let long = booked_long _ _ c.self.invariant.1 in
    omega (arith, long, c.in_ok-reserve_to.ensures.few, c.taken_count.ensures, ap (λ (rs : List Record). length rs) c.reserve_to.ensures.records)

pub push-requires-clause-room : goal.push-requires-clause-room
push-requires-clause-room g c =
    let long = booked_long _ _ c.self.invariant.1 in
    omega (arith, long, c.in_ok-reserve_to.ensures.all, c.taken_count.ensures, ap (λ (rs : List Record). length rs) c.reserve_to.ensures.records)

pub invariant_of-self-2 : goal.invariant_of-self-2
invariant_of-self-2 g c =
    let f = c.self.inside in
    let k = booking_of f.ticks f.before f.records f.agenda f.batches f.book.total in
    let has : HasNext (shared_of k) = subst HasNext (sym c.self.view_is) c.requires.next in
    let at = sym (get_or_from_slice_get f.agenda.items f.agenda.next c.peek.result.now c.peek.result.now c.peek.ensures) in
    let own = c.actor.ensures ∙ sym c.requires.own ∙ ap (λ (f : Shared). (next_item f).actor) (sym c.self.view_is) in
    let is = next_record_is (shared_of k) c.args.sends c.actor.result c.in_ok-event.event c.peek.result.now has at own c.in_ok-event.ensures in
    let r = step_of f.ticks.tick c.actor.result c.in_ok-event.event c.args.sends in
    let added = c.if-not-push.ensures.pushed.0 ∙ ap (λ (rs : List Record). rs ++ r ∷ []) c.reserve_to.ensures.records in (
      c.self.invariant.0,
      booked_next_item _ k c.args.sends r c.push.new.self c.take.new.self c.self.invariant.1 has is added c.take.ensures.items c.take.ensures.next
          (omega (arith, c.in_ok-reserve_to.ensures.all, c.taken_count.ensures, c.take.ensures.next, c.if-not-push.ensures.room))
          (omega (arith, c.in_ok-reserve_to.ensures.few, c.taken_count.ensures, c.take.ensures.next)),
    )

pub returns : goal.returns
returns g c =
    let f = c.self.inside in
    let rs = f.records.records in
    let lane = c.args.lane.now in
    let sends = c.args.sends in
    let k = booking_of f.ticks f.before f.records f.agenda f.batches f.book.total in
    let has : HasNext (shared_of k) = subst HasNext (sym c.self.view_is) c.requires.next in
    let at = sym (get_or_from_slice_get f.agenda.items f.agenda.next c.peek.result.now c.peek.result.now c.peek.ensures) in
    let own = c.actor.ensures ∙ sym c.requires.own ∙ ap (λ (f : Shared). (next_item f).actor) (sym c.self.view_is) in
    let is = next_record_is (shared_of k) sends c.actor.result c.in_ok-event.event c.peek.result.now has at own c.in_ok-event.ensures in
    let r = step_of f.ticks.tick c.actor.result c.in_ok-event.event sends in
    let pushed = c.if-not-push.ensures.pushed in
    let added = pushed.0 ∙ ap (λ (rs : List Record). rs ++ r ∷ []) c.reserve_to.ensures.records in
    let all = sym (all_records f.before rs) ∙ ap (λ (f : Shared). records_of f.run) c.self.view_is in (
      with_next_is k sends r c.push.new.self c.take.new.self c.self.invariant.1.within is added c.take.ensures.items c.take.ensures.next
          ∙ ap (with_next sends) c.self.view_is,
      (
        pushed.1.0 ∙ ap (λ (rs : List Record). steps_of c.actor.result (reverse rs)) c.reserve_to.ensures.records
            ∙ ap (λ (a : Actor). steps_of a (reverse rs)) c.actor.ensures ∙ ap (steps_of lane.actor) all,
        pushed.1.1 ∙ ap (λ (r : Record). with_step r lane) (is ∙ ap (next_record sends) c.self.view_is),
      ),
    )
