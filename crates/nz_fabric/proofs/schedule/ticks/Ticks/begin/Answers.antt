-- What the function of this folder owes, proved.
use Rattle.std.proofs.Common.{◌+◌, ◌++◌, ◌∙◌, [], List, map, refl, ap, arith, append_assoc}
use Rattle.nz_machine.specs.declared.journal.Item.{Item}
use Rattle.nz_machine.specs.runs.Schedule.{calls, tick_item, actors_of, arrivals}
use Rattle.nz_fabric.specs.schedule.Numbered.{items_under}
use Rattle.nz_fabric.proofs.schedule.ticks.Ticks.begin.Goals as goal

pub returns-clause-ok : goal.returns-clause-ok
returns-clause-ok c = λ L h.
    let t = c.args.self.now in
    let s = t.scenario in
    let next = t.tick + 1 in
    let first = calls next 0 s.faults in
    let clocks = map (tick_item s next) (actors_of s) in
    record {
      scenario = refl;
      tick = refl;
      are_due =
          c.in_ok-move_to.ensures.due s L t.tick h (omega arith) (omega (arith, c.requires.more))
          ∙ ap (λ (is : List Item). is ++ arrivals s next [] L) c.in_ok-items.ensures.due
          ∙ ap (λ (is : List Item). (is ++ clocks) ++ arrivals s next [] L) (c.under-asked.ensures ∙ ap (items_under t.calls) c.from.ensures ∙ t.asked next)
          ∙ append_assoc first clocks (arrivals s next [] L);
      unmarked = refl;
      stands = c.in_ok-move_to.ensures.stands s L t.tick h (omega arith);
    }
