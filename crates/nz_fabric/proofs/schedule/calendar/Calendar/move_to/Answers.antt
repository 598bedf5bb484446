-- What the function of this folder owes, proved.
use Rattle.std.proofs.Common.{◌<◌, ◌++◌, ◌∙◌, [], List, length, sym, ap, subst, arith, append-nil}
use Rattle.std.proofs.lemmas.List.{get_or_past, length-map}
use Rattle.std.specs.Prelude.{Vec}
use Rattle.std.specs.Global.{Global}
use Rattle.nz_machine.specs.declared.journal.Item.{Item}
use Rattle.nz_fabric.specs.schedule.Calendars.{Dates, items_in}
use Rattle.nz_fabric.specs.schedule.Posting.{days_of, AreShort}
use Rattle.nz_fabric.proofs.calendars.Dating.{day_is, kept_short, same_days, set_short, taken_now, taken_later, stands_by, represents_later}
use Rattle.nz_fabric.proofs.calendars.Sending.{on_err}
use Rattle.nz_fabric.proofs.schedule.calendar.Calendar.move_to.Goals as goal

-- ---- where no day of the tick was opened

pub returns-then-place-len-clause-due : goal.returns-then-place-len-clause-due
returns-then-place-len-clause-due c = λ s L now h lt le.
    let f = c.self.inside in
    let long = length-map f.days.items (λ (v : Vec Item Global). v.items) in
    sym (append-nil c.args.items.now.items)
    ∙ ap (λ (is : List Item). c.args.items.now.items ++ is)
    (sym (get_or_past (days_of f.days.items) c.args.tick [] (omega (arith, long, c.if-place-len.true, c.len.ensures)))
    ∙ ap (λ (d : Dates). items_in d.days c.args.tick) c.self.view_is ∙ h.items c.args.tick lt le)

-- ---- where memory runs out

pub invariant_of-self-in_err-append : goal.invariant_of-self-in_err-append
invariant_of-self-in_err-append c =
    let days = c.reserve.new.self.items in
    kept_short c.self.inside.days.items _
    (λ t. ap (λ (D : List (List Item)). items_in D t)
    (same_days days c.args.tick c.index_mut.result.now c.append.new.other c.index_mut.ensures.value c.in_err-append.ensures.other_items
    ∙ ap days_of c.reserve.ensures.items)) c.self.invariant

pub returns-in_err-append-clause-err : goal.returns-in_err-append-clause-err
returns-in_err-append-clause-err c =
    let f = c.self.inside in
    let days = c.reserve.new.self.items in
    on_err _ _ (ap (λ (D : List (List Item)). record { parcels = f.parcels; watched = f.watched; courses = f.courses.entries; days = D })
    (same_days days c.args.tick c.index_mut.result.now c.append.new.other c.index_mut.ensures.value c.in_err-append.ensures.other_items
    ∙ ap days_of c.reserve.ensures.items) ∙ c.self.view_is)

-- ---- where the items were moved

pub pass_on-requires-clause-empty : goal.pass_on-requires-clause-empty
pass_on-requires-clause-empty c =
    taken_now c.reserve.new.self.items c.args.tick c.append.new.other
    (omega (arith, c.if-place-len.false, c.len.ensures, c.reserve.ensures.len)) c.in_ok-append.ensures.other_items

pub invariant_of-self-2 : goal.invariant_of-self-2
invariant_of-self-2 c =
    let days = c.reserve.new.self.items in
    let none = ap length c.in_ok-append.ensures.other_items in
    kept_short _ c.pass_on.new.days.items c.pass_on.ensures
    (set_short days c.args.tick c.append.new.other (omega (arith, c.if-place-len.false, c.len.ensures, c.reserve.ensures.len))
    (omega (arith, none)) (subst AreShort (sym c.reserve.ensures.items) c.self.invariant))

pub returns-clause-stands : goal.returns-clause-stands
returns-clause-stands c = λ s L now h lt.
    let days = c.reserve.new.self.items in
    stands_by s L c.args.tick c.args.self.now _ (ap (λ (d : Dates). d.parcels) c.self.view_is) (ap (λ (d : Dates). d.watched) c.self.view_is)
    (ap (λ (d : Dates). d.courses) c.self.view_is)
    (λ t after. c.pass_on.ensures t ∙ taken_later days c.args.tick t c.append.new.other after c.in_ok-append.ensures.other_items
    ∙ ap (λ (days : List (Vec Item Global)). items_in (days_of days) t) c.reserve.ensures.items
    ∙ ap (λ (d : Dates). items_in d.days t) c.self.view_is) (represents_later s L now c.args.tick c.args.self.now lt h)

pub returns-clause-due : goal.returns-clause-due
returns-clause-due c = λ s L now h lt le.
    let days = c.reserve.new.self.items in
    let within : c.args.tick < length days = omega (arith, c.if-place-len.false, c.len.ensures, c.reserve.ensures.len) in
    c.in_ok-append.ensures.items
    ∙ ap (λ (is : List Item). c.args.items.now.items ++ is)
    (sym (day_is days c.args.tick c.index_mut.result.now within c.index_mut.ensures.value)
    ∙ ap (λ (days : List (Vec Item Global)). items_in (days_of days) c.args.tick) c.reserve.ensures.items
    ∙ ap (λ (d : Dates). items_in d.days c.args.tick) c.self.view_is ∙ h.items c.args.tick lt le)
