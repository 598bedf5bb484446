-- What the function of this folder owes, proved.
use Rattle.std.proofs.Common.{◌∙◌, ◌<◌, ◌^◌, [], List, length, refl, sym, ap, subst, append-nil}
use Rattle.std.proofs.lemmas.Result.{on_ok_weaker, on_err_weaker}
use Rattle.nz_machine.specs.declared.journal.Item.{Item}
use Rattle.nz_fabric.specs.schedule.Calendars.{items_in}
use Rattle.nz_fabric.specs.schedule.Posting.{days_of}
use Rattle.nz_fabric.proofs.calendars.Dating.{day_is, kept_short, placed_one, same_days, set_short}
use Rattle.nz_fabric.proofs.schedule.calendar.place_one.Goals as goal

pub returns-clause-short : goal.returns-clause-short
returns-clause-short c =
    let days = c.open_days.new.days.items in
    let tick = c.args.arrival.tick in
    let short = kept_short c.args.days.now.items days c.open_days.ensures.same c.requires.short in
    let own = day_is days tick c.index_mut.result.now c.in_ok-open_days.ensures.open c.index_mut.ensures.value in
    set_short days tick c.push_short.new.day c.in_ok-open_days.ensures.open
    (c.push_short.ensures.short (subst (λ (is : List Item). length is < 2 ^ 32) own (short tick))) short

pub returns-clause-ok : goal.returns-clause-ok
returns-clause-ok c =
    let days = c.open_days.new.days.items in
    let old = days_of c.args.days.now.items in
    let a = c.args.arrival in
    on_ok_weaker c.push_short.result (λ items t.
    placed_one days old [] a.tick t c.index_mut.result.now c.push_short.new.day a c.in_ok-open_days.ensures.open
    c.index_mut.ensures.value refl items (c.open_days.ensures.same t ∙ sym (append-nil (items_in old t)))) c.push_short.ensures.ok

pub returns-clause-err : goal.returns-clause-err
returns-clause-err c =
    on_err_weaker c.push_short.result (λ items t.
    ap (λ (D : List (List Item)). items_in D t)
    (same_days c.open_days.new.days.items c.args.arrival.tick c.index_mut.result.now c.push_short.new.day c.index_mut.ensures.value items)
    ∙ c.open_days.ensures.same t) c.push_short.ensures.err
