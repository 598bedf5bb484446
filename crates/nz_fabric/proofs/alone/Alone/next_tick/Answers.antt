-- What the function of this folder owes, proved.
use Rattle.std.proofs.Common.{◌≡◌, ◌<◌, ◌≤◌, ◌+◌, ◌∙◌, false, length, sym, ap, subst, arith}
use Rattle.nz_fabric.specs.declared.schedule.ticks.Ticks.{Ticks}
use Rattle.nz_fabric.specs.schedule.Agendas.{Progress}
use Rattle.nz_fabric.specs.alone.States.{State, IsDone, IsHeld, after_tick, records_of, state_in}
use Rattle.nz_fabric.proofs.one_thread.Held.{long_records, over_some, over_whole, over_begun, next_in_order, held_marked, held_next, room_over}
use Rattle.nz_fabric.proofs.one_thread.Remembering.{here_is, in_memory_next, room_next}
use Rattle.nz_fabric.proofs.alone.Alone.next_tick.Goals as goal

pub invariant_of-self : goal.invariant_of-self
invariant_of-self c =
    let f = c.self.inside in
    let t = f.ticks in
    let inv = c.self.invariant.0 in
    let rest = c.self.invariant.1 in
    let unmarked : t.marked ≡ false = ap (λ (f : State). f.marked) c.self.view_is ∙ c.requires.none_open.unmarked in
    let here = here_is f.run f.records.records f.gone f.before f.keeps rest in
    let now = c.post_all.new.calendar in (
      held_marked t.scenario t.tick f.before (f.gone + f.records.room) f.run f.agenda.items f.agenda.next t.marked t.calendar now inv
          (over_some t f.before f.run _ f.agenda.items f.agenda.next now unmarked inv.is_posted here c.in_err-post_all.ensures.err),
      rest,
    )

pub invariant_of-self-in_err-items : goal.invariant_of-self-in_err-items
invariant_of-self-in_err-items c =
    let f = c.self.inside in
    let t = f.ticks in
    let room = f.gone + f.records.room in
    let inv = c.self.invariant.0 in
    let rest = c.self.invariant.1 in
    let unmarked : t.marked ≡ false = ap (λ (f : State). f.marked) c.self.view_is ∙ c.requires.none_open.unmarked in
    let here = here_is f.run f.records.records f.gone f.before f.keeps rest in
    let now = c.post_all.new.calendar in (
      subst (λ (p : Progress). IsHeld (state_in c.begin.new.self f.before f.run p.items p.next) f.before room f.run c.begin.new.self.calendar)
          (sym c.take_memory-memory.ensures)
          (subst (λ (t : Ticks). IsHeld (state_in t f.before f.run f.agenda.items f.agenda.next) f.before room f.run t.calendar)
          (sym c.in_err-items.ensures.err)
          (held_marked t.scenario t.tick f.before room f.run f.agenda.items f.agenda.next t.marked t.calendar now inv
          (over_whole t f.before f.run _ f.agenda.items f.agenda.next now unmarked inv.is_posted here c.in_ok-post_all.ensures.ok))),
      rest,
    )

pub invariant_of-self-2 : goal.invariant_of-self-2
invariant_of-self-2 c =
    let f = c.self.inside in
    let t = f.ticks in
    let inv = c.self.invariant.0 in
    let rest = c.self.invariant.1 in
    let is = c.in_ok-items.items.items in
    let n = c.count-count.result in
    let left = c.let_go-self-inside.new.records in
    let gone = c.let_go-self-inside.result in
    let went = c.let_go-self-inside.ensures in
    let done = subst IsDone (sym c.self.view_is) c.requires in
    let here = here_is f.run f.records.records f.gone f.before f.keeps rest in
    let begun =
    over_begun t f.before f.run _ f.agenda.items f.agenda.next c.post_all.new.calendar c.begin.new.self is done.none_open.unmarked inv.is_posted here
    c.in_ok-post_all.ensures.ok c.in_ok-items.ensures.ok in
    let long : n ≡ length f.run = c.count-count.ensures ∙ ap (λ (s : State). length (records_of s)) (sym c.self.view_is) ∙ long_records f.before f.run in
    let within : f.before ≤ n = (let le = inv.within in omega (arith, le, long)) in
    let lt : t.tick < t.scenario.ticks = (let k = inv.kept.in_run in let ne = c.if-self.false in omega (arith, k, ne)) in
    let room = room_over t.scenario t.tick f.before (f.gone + f.records.room) f.run f.agenda.items f.agenda.next t.marked t.calendar inv done in
    let after = room_next f.records left f.gone n gone f.keeps (omega (arith, room, long)) went in (
      subst (λ (p : Progress). IsHeld (state_in c.begin.new.self n f.run p.items p.next) n (gone + left.room) f.run c.begin.new.self.calendar)
          (sym c.new.ensures)
          (held_next t.scenario t.tick f.before n (f.gone + f.records.room) (gone + left.room) f.run f.agenda.items f.agenda.next t.marked t.calendar
          c.begin.new.self is inv done lt begun long after),
      in_memory_next f.run f.records left f.gone f.before n gone f.keeps long within rest went,
    )

pub returns : goal.returns
returns c =
    let f = c.self.inside in
    let t = f.ticks in
    let inv = c.self.invariant.0 in
    let is = c.in_ok-items.items.items in
    let n = c.count-count.result in
    let unmarked : t.marked ≡ false = ap (λ (f : State). f.marked) c.self.view_is ∙ c.requires.none_open.unmarked in
    let here = here_is f.run f.records.records f.gone f.before f.keeps c.self.invariant.1 in
    let begun =
    over_begun t f.before f.run _ f.agenda.items f.agenda.next c.post_all.new.calendar c.begin.new.self is unmarked inv.is_posted here
    c.in_ok-post_all.ensures.ok c.in_ok-items.ensures.ok in
    let long : n ≡ length f.run = c.count-count.ensures ∙ ap (λ (s : State). length (records_of s)) (sym c.self.view_is) ∙ long_records f.before f.run in
    let lt : t.tick < t.scenario.ticks = (let k = inv.kept.in_run in let ne = c.if-self.false in omega (arith, k, ne)) in (
      ap (λ (p : Progress). state_in c.begin.new.self n f.run p.items p.next) c.new.ensures
          ∙ next_in_order t.scenario t.tick f.before n f.run f.agenda.items f.agenda.next t.marked c.begin.new.self is begun long unmarked
          ∙ ap after_tick c.self.view_is,
      subst (λ (f : State). f.tick < f.scenario.ticks) c.self.view_is lt,
    )
