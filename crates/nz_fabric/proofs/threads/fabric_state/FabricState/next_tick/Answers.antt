-- What the function of this folder owes, proved.
use Rattle.std.proofs.Common.{◌≡◌, ◌<◌, ◌∙◌, false, length, sym, ap, subst, arith}
use Rattle.std.specs.Prelude.{IsPermutation, drop}
use Rattle.nz_machine.specs.journals.Records.{Recorded}
use Rattle.nz_machine.specs.runs.Schedule.{posted_by_run}
use Rattle.nz_fabric.specs.alone.States.{after_tick, records_of, state_in}
use Rattle.nz_fabric.specs.threads.Shared.{Shared, IsOver, after_shared, booking_of}
use Rattle.nz_fabric.proofs.one_thread.Held.{over_some, over_whole, over_begun, begun_grouped}
use Rattle.nz_fabric.proofs.several_threads.Sharing.{booked_marked, booked_next, shared_next_is}
use Rattle.nz_fabric.proofs.threads.fabric_state.FabricState.next_tick.Goals as goal

pub invariant_of-self : goal.invariant_of-self
invariant_of-self g c =
    let f = c.self.inside in
    let t = f.ticks in
    let rest = ap (λ (r : Recorded). drop f.before r.records) c.recording.ensures in
    let inv = c.self.invariant.1 in
    let unmarked : t.marked ≡ false = ap (λ (f : Shared). f.run.marked) c.self.view_is ∙ c.requires.unmarked in
    let now = c.post_all.new.calendar in (
      c.self.invariant.0,
      booked_marked _ _ now inv
          (over_some t f.before f.records.records _ f.agenda.items f.agenda.next now unmarked inv.is_posted rest c.in_err-post_all.ensures.err),
    )

pub invariant_of-self-in_err-items : goal.invariant_of-self-in_err-items
invariant_of-self-in_err-items g c =
    let f = c.self.inside in
    let t = f.ticks in
    let rest = ap (λ (r : Recorded). drop f.before r.records) c.recording.ensures in
    let inv = c.self.invariant.1 in
    let unmarked : t.marked ≡ false = ap (λ (f : Shared). f.run.marked) c.self.view_is ∙ c.requires.unmarked in
    let now = c.post_all.new.calendar in (
      c.self.invariant.0,
      rw (c.take_memory-memory.ensures, c.in_err-items.ensures.err)
          (booked_marked _ _ now inv
          (over_whole t f.before f.records.records _ f.agenda.items f.agenda.next now unmarked inv.is_posted rest c.in_ok-post_all.ensures.ok)),
    )

pub invariant_of-self-2 : goal.invariant_of-self-2
invariant_of-self-2 g c =
    let f = c.self.inside in
    let t = f.ticks in
    let rs = f.records.records in
    let rest = ap (λ (r : Recorded). drop f.before r.records) c.recording.ensures in
    let inv = c.self.invariant.1 in
    let is = c.group.new.items.items in
    let unmarked : t.marked ≡ false = ap (λ (f : Shared). f.run.marked) c.self.view_is ∙ c.requires.unmarked in
    let begun =
    begun_grouped t.scenario t.tick (posted_by_run (records_of (state_in t f.before rs f.agenda.items f.agenda.next))) c.begin.new.self
    c.in_ok-items.items.items is
    (over_begun t f.before rs _ f.agenda.items f.agenda.next c.post_all.new.calendar c.begin.new.self c.in_ok-items.items.items unmarked inv.is_posted rest
    c.in_ok-post_all.ensures.ok c.in_ok-items.ensures.ok) c.group.ensures in
    let long : c.len-self-inside.result ≡ length rs = omega (arith, c.len-self-inside.ensures) in
    let lt : t.tick < t.scenario.ticks = (let k = inv.accounted.in_run in let ne = c.if-self.false in omega (arith, k, ne)) in
    let over = subst IsOver (sym c.self.view_is) c.requires in (
      c.self.invariant.0,
      rw (c.new.ensures) (booked_next _ _ c.len-self-inside.result c.begin.new.self is inv over lt begun long),
    )

pub returns : goal.returns
returns g c =
    let f = c.self.inside in
    let t = f.ticks in
    let rs = f.records.records in
    let rest = ap (λ (r : Recorded). drop f.before r.records) c.recording.ensures in
    let inv = c.self.invariant.1 in
    let is = c.group.new.items.items in
    let unmarked : t.marked ≡ false = ap (λ (f : Shared). f.run.marked) c.self.view_is ∙ c.requires.unmarked in
    let begun =
    begun_grouped t.scenario t.tick (posted_by_run (records_of (state_in t f.before rs f.agenda.items f.agenda.next))) c.begin.new.self
    c.in_ok-items.items.items is
    (over_begun t f.before rs _ f.agenda.items f.agenda.next c.post_all.new.calendar c.begin.new.self c.in_ok-items.items.items unmarked inv.is_posted rest
    c.in_ok-post_all.ensures.ok c.in_ok-items.ensures.ok) c.group.ensures in
    let long : c.len-self-inside.result ≡ length rs = omega (arith, c.len-self-inside.ensures) in
    let lt : t.tick < t.scenario.ticks = (let k = inv.accounted.in_run in let ne = c.if-self.false in omega (arith, k, ne)) in
    let over = subst IsOver (sym c.self.view_is) c.requires in (
      rw (c.new.ensures) (record {
        begun = shared_next_is (booking_of t f.before f.records f.agenda f.batches f.book.total) c.len-self-inside.result c.begin.new.self is over begun long
            ∙ ap (after_shared is) c.self.view_is;
        items = subst (λ (f : Shared). IsPermutation (after_tick f.run).items is) c.self.view_is begun.are_due;
      }),
      subst (λ (f : Shared). f.run.tick < f.run.scenario.ticks) c.self.view_is lt,
    )
