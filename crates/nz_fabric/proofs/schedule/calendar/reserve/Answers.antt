-- What the function of this folder owes, proved.
use Rattle.std.proofs.Common.{◌∙◌, List, length, sym, ap, arith}
use Rattle.std.specs.Prelude.{Vec}
use Rattle.std.specs.Global.{Global}
use Rattle.nz_machine.specs.declared.journal.Item.{Item}
use Rattle.nz_fabric.specs.schedule.Calendars.{items_in}
use Rattle.nz_fabric.proofs.calendars.Dating.{same_days, room_set, room_at, same_read}
use Rattle.nz_fabric.proofs.schedule.calendar.reserve.Goals as goal

pub returns-in_err-reserve-clause-same : goal.returns-in_err-reserve-clause-same
returns-in_err-reserve-clause-same c = λ t.
    let days = c.open_days.new.days.items in
    ap (λ (D : List (List Item)). items_in D t)
    (same_days days c.args.tick c.index_mut.result.now c.reserve.new.self c.index_mut.ensures.value
    c.reserve.ensures.items) ∙ c.open_days.ensures.same t

pub returns-in_err-reserve-clause-rooms : goal.returns-in_err-reserve-clause-rooms
returns-in_err-reserve-clause-rooms c = λ n t h.
    room_set n n c.open_days.new.days.items c.args.tick c.index_mut.result.now c.reserve.new.self t
    c.in_ok-open_days.ensures.open c.index_mut.ensures.value (omega arith)
    (omega (arith, ap length c.reserve.ensures.items)) c.reserve.ensures.capacity (c.open_days.ensures.rooms n t h)

pub returns-clause-same : goal.returns-clause-same
returns-clause-same c = λ t.
    let days = c.open_days.new.days.items in
    ap (λ (D : List (List Item)). items_in D t)
    (same_days days c.args.tick c.index_mut.result.now c.reserve.new.self c.index_mut.ensures.value
    c.reserve.ensures.items) ∙ c.open_days.ensures.same t

pub returns-clause-rooms : goal.returns-clause-rooms
returns-clause-rooms c = λ n t h.
    room_set n n c.open_days.new.days.items c.args.tick c.index_mut.result.now c.reserve.new.self t
    c.in_ok-open_days.ensures.open c.index_mut.ensures.value (omega arith)
    (omega (arith, ap length c.reserve.ensures.items)) c.reserve.ensures.capacity (c.open_days.ensures.rooms n t h)

pub returns-clause-room : goal.returns-clause-room
returns-clause-room c =
    let len = c.reserve.ensures.len in
    let items = ap length c.reserve.ensures.items in
    let now =
    ap (λ (v : Vec Item Global). length v.items)
    (c.index_mut.ensures.value ∙ sym
    (same_read c.open_days.new.days.items c.args.tick c.index.result.now c.index_mut.result.now c.in_ok-open_days.ensures.open c.index.ensures)) in
    room_at c.args.count c.open_days.new.days.items c.args.tick c.reserve.new.self c.in_ok-open_days.ensures.open
    (omega (arith, c.in_ok-reserve.ensures.ok, items, len))
    (omega (arith, items, now, c.if-room-count.false, c.saturating_sub-room.ensures, c.len.ensures))
