-- What the function of this folder owes, proved.
use Rattle.std.proofs.Common.{◌≡◌, ◌∙◌, ◌+◌, ◌∷◌, [], ℕ, List, true, false, None, Some, Option, map, refl, sym, ap, subst}
use Rattle.std.proofs.lemmas.Result.{on_ok_weaker}
use Rattle.std.specs.Prelude.{OnOk}
use Rattle.nz_base.specs.declared.scenario.Fault.{Fault}
use Rattle.nz_machine.specs.runs.Schedule.{Delivery, kind_in_frame, whole_in}
use Rattle.nz_machine.specs.declared.event.Parcel.{Parcel}
use Rattle.nz_fabric.specs.schedule.Calendars.{counted_kind, is_watched, next_number, traffic_of, IsCounted}
use Rattle.nz_fabric.specs.schedule.Posting.{arrival_of, arrivals_up_to, delivery_as_stored, ArePlaced, HasNumberIfWatched}
use Rattle.nz_fabric.proofs.calendars.Numbering.{number_if, number_of_none, kind_counted}
use Rattle.nz_fabric.proofs.calendars.Striking.{unwatched_whole}
use Rattle.nz_fabric.proofs.schedule.calendar.post_parcel.Goals as goal

pub returns-in_default-clause-placed : goal.returns-in_default-clause-placed
returns-in_default-clause-placed c = λ same keeps earlier is.
    let p = c.args.parcel.now in
    let none : None ≡ kind_in_frame p.frame = sym c.in_default.is ∙ c.kind_of.ensures ∙ ap (λ (q : Parcel). kind_in_frame q.frame) c.get.ensures in
    c.place_without_course.ensures.ok earlier (number_of_none earlier p 1 none)

pub returns-then-contains-clause-counted : goal.returns-then-contains-clause-counted
returns-then-contains-clause-counted c = λ same keeps.
    let p = c.args.parcel.now in
    let lines = c.args.scenario.now.faults in
    let kind = c.in-Some.kind in
    let own : Some kind ≡ kind_in_frame p.frame = sym c.in-Some.is ∙ c.kind_of.ensures ∙ ap (λ (q : Parcel). kind_in_frame q.frame) c.get.ensures in
    let watched : is_watched lines kind ≡ true = ap (λ (lines : List Fault). is_watched lines kind) (sym same) ∙ sym c.contains.ensures ∙ c.if-contains.true in
    subst (λ (k : Option ℕ). OnOk c.post_on_course.result
    (IsCounted lines c.args.courses.now.entries c.post_on_course.new.courses.entries p k))
    (kind_counted lines kind p true own watched) (c.post_on_course.ensures.counted keeps)

pub returns-then-contains-clause-placed : goal.returns-then-contains-clause-placed
returns-then-contains-clause-placed c = λ same keeps earlier is.
    let p = c.args.parcel.now in
    let lines = c.args.scenario.now.faults in
    let before = c.args.courses.now.entries in
    let kind = c.in-Some.kind in
    let own : Some kind ≡ kind_in_frame p.frame = sym c.in-Some.is ∙ c.kind_of.ensures ∙ ap (λ (q : Parcel). kind_in_frame q.frame) c.get.ensures in
    let watched : is_watched lines kind ≡ true = ap (λ (lines : List Fault). is_watched lines kind) (sym same) ∙ sym c.contains.ensures ∙ c.if-contains.true in
    let number = subst (λ (k : Option ℕ). HasNumberIfWatched lines earlier p (next_number (traffic_of before p k)))
    (sym (kind_counted lines kind p true own watched)) is in
    c.post_on_course.ensures.placed keeps earlier (number_if lines earlier p _ kind own watched number)

pub returns-clause-counted : goal.returns-clause-counted
returns-clause-counted c = λ same keeps.
    let p = c.args.parcel.now in
    let lines = c.args.scenario.now.faults in
    let before = c.args.courses.now.entries in
    let kind = c.in-Some.kind in
    let own : Some kind ≡ kind_in_frame p.frame = sym c.in-Some.is ∙ c.kind_of.ensures ∙ ap (λ (q : Parcel). kind_in_frame q.frame) c.get.ensures in
    let free : is_watched lines kind ≡ false = ap (λ (lines : List Fault). is_watched lines kind) (sym same) ∙ sym c.contains.ensures ∙ c.if-contains.false in
    let counted : IsCounted lines before before p (counted_kind lines (kind_in_frame p.frame)) =
    subst (IsCounted lines before before p) (kind_counted lines kind p false own free) refl in
    on_ok_weaker c.place_whole.result (λ placed. counted) (c.place_whole.ensures.ok [])

pub returns-clause-placed : goal.returns-clause-placed
returns-clause-placed c = λ same keeps earlier is.
    let p = c.args.parcel.now in
    let s = c.args.scenario.now in
    let tick = c.args.tick in
    let kind = c.in-Some.kind in
    let whole : List Delivery = whole_in (tick + 1) ∷ [] in
    let own : Some kind ≡ kind_in_frame p.frame = sym c.in-Some.is ∙ c.kind_of.ensures ∙ ap (λ (q : Parcel). kind_in_frame q.frame) c.get.ensures in
    let free : is_watched s.faults kind ≡ false =
    ap (λ (lines : List Fault). is_watched lines kind) (sym same) ∙ sym c.contains.ensures ∙ c.if-contains.false in
    subst (λ (ds : List Delivery). OnOk c.place_whole.result (ArePlaced c.args.days.now.items
    (arrivals_up_to s.ticks (map (arrival_of p) (map delivery_as_stored ds))) c.place_whole.new.days.items))
    (unwatched_whole tick kind earlier p s.faults whole (sym own) free) (c.place_whole.ensures.ok earlier)
