-- What the function of this folder owes, proved.
use Rattle.std.proofs.Common.{◌≡◌, ◌∙◌, [], List, ap, sym}
use Rattle.std.specs.Prelude.{Vec}
use Rattle.std.specs.Global.{Global}
use Rattle.nz_machine.specs.declared.journal.Item.{Item}
use Rattle.nz_fabric.specs.schedule.Calendars.{items_in}
use Rattle.nz_fabric.specs.schedule.Posting.{days_of}
use Rattle.nz_fabric.proofs.calendars.Dating.{day_is, opened, same_empty}
use Rattle.nz_fabric.proofs.schedule.calendar.pass_on.Goals as goal

-- ---- where the next day is opened

pub returns-then-len-place : goal.returns-then-len-place
returns-then-len-place c = λ t.
    let days = c.args.days.now.items in
    let old = c.index_mut.result.now in
    let none : old.items ≡ [] = sym (day_is days c.args.place old c.requires.within c.index_mut.ensures.value) ∙ c.requires.empty in
    ap (λ (days : List (Vec Item Global)). items_in (days_of days) t) c.push_reserved.ensures.items
    ∙ opened _ c.replace-memory.result t (ap (λ (v : Vec Item Global). v.items) c.replace-memory.ensures.value ∙ none)
    ∙ ap (λ (D : List (List Item)). items_in D t)
    (same_empty days c.args.place old c.replace-memory.new.dest c.requires.within c.index_mut.ensures.value c.requires.empty
    (ap (λ (v : Vec Item Global). v.items) c.replace-memory.ensures.after ∙ c.new.ensures.items))

-- ---- where it was opened before

pub returns-else-len-place : goal.returns-else-len-place
returns-else-len-place c = λ t.
    ap (λ (D : List (List Item)). items_in D t)
    (same_empty c.args.days.now.items c.args.place c.index_mut.result.now c.replace-memory.new.dest c.requires.within c.index_mut.ensures.value
    c.requires.empty (ap (λ (v : Vec Item Global). v.items) c.replace-memory.ensures.after ∙ c.new.ensures.items))
