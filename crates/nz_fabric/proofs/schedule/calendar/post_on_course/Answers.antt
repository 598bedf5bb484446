-- What the function of this folder owes, proved.
use Rattle.std.proofs.Common.{◌≡◌, ◌∙◌, ◌+◌, ◌++◌, ◌∷◌, [], List, None, Some, Option, map, sym, ap, subst, arith}
use Rattle.std.proofs.lemmas.Grind.{common_steps}
use Rattle.std.proofs.lemmas.Map.Steps.{set_value_same}
use Rattle.std.specs.Prelude.{filter, IfSome, OnOk}
use Rattle.nz_machine.specs.runs.Schedule.{Delivery, whole_in}
use Rattle.nz_machine.specs.declared.event.Parcel.{Parcel}
use Rattle.nz_fabric.specs.declared.schedule.course.Traffic.{Traffic}
use Rattle.nz_fabric.specs.schedule.Calendars.{course, items_in, may_strike, next_number, traffic_on, HasLines}
use Rattle.nz_fabric.specs.schedule.Posting.{arrival_of, arrivals_by, arrivals_up_to, days_of, delivery_as_stored, items_arriving, AreKept, ArePlaced}
use Rattle.nz_fabric.specs.schedule.Posting.{HasNumber}
use Rattle.nz_fabric.proofs.calendars.Sending.{on_err}
use Rattle.nz_fabric.proofs.calendars.Striking.{kept_suffice}
use Rattle.nz_fabric.proofs.schedule.calendar.post_on_course.Goals as goal

pub returns-in_err-place_on_course-in-Some-clause-err : goal.returns-in_err-place_on_course-in-Some-clause-err
returns-in_err-place_on_course-in-Some-clause-err c =
    let before = c.args.courses.now.entries in
    let traffic = c.in-Some.traffic.now in
    let after = (c.get_mut.follows.lender traffic).entries in
    let same : (after ≡ before) × AreKept c.args.days.now.items c.place_on_course.new.days.items = (
      (c.get_mut.follows.holds traffic).0 ∙ set_value_same _ before traffic (sym c.in-Some.ensures.value),
      c.in_err-place_on_course-in-Some.ensures.err,
    ) in
    on_err _ _ same

pub returns-in-None-clause-placed : goal.returns-in-None-clause-placed
returns-in-None-clause-placed c = λ keeps earlier is.
    let p = c.args.parcel.now in
    let s = c.args.scenario.now in
    let courses = c.args.courses.now.entries in
    let none : None ≡ traffic_on courses (course p.from p.to c.args.kind) =
    c.in-None.ensures.value ∙ ap (traffic_on courses) (c.course_of.ensures ∙ ap (λ (q : Parcel). course q.from q.to c.args.kind) c.get.ensures) in
    subst (λ (kept : Option Traffic). HasNumber earlier p (next_number kept) → OnOk c.post_first.result
    (ArePlaced c.args.days.now.items (arrivals_by s.ticks c.args.tick earlier p s.faults) c.post_first.new.days.items))
    none (c.post_first.ensures.placed earlier) is

pub returns-in_ok-place_on_course-in-Some-clause-counted : goal.returns-in_ok-place_on_course-in-Some-clause-counted
returns-in_ok-place_on_course-in-Some-clause-counted c = λ keeps.
    let p = c.args.parcel.now in
    let lines = c.args.scenario.now.faults in
    let own = c.args.kind in
    let before = c.args.courses.now.entries in
    let old = c.in-Some.traffic.now in
    let new : Traffic = record { count = c.saturating_add-traffic.result; blocks = old.blocks; named = old.named } in
    let at : Some old ≡ traffic_on before (course p.from p.to own) =
    c.in-Some.ensures.value ∙ ap (traffic_on before) (c.course_of.ensures ∙ ap (λ (q : Parcel). course q.from q.to own) c.get.ensures) in
    let kept = subst (λ (o : Option Traffic). IfSome o (HasLines (filter (may_strike p.from p.to own) lines))) (sym at) (keeps p.from p.to own) in
    record {
      traffic = new;
      count = c.saturating_add-traffic.ensures ∙ ap next_number at;
      kept = record { blocks = kept.blocks; named = kept.named };
      courses = λ x. grind (arith, common_steps);
    }

pub returns-in_ok-place_on_course-in-Some-clause-placed : goal.returns-in_ok-place_on_course-in-Some-clause-placed
returns-in_ok-place_on_course-in-Some-clause-placed c = λ keeps earlier is t.
    let p = c.args.parcel.now in
    let s = c.args.scenario.now in
    let tick = c.args.tick in
    let own = c.args.kind in
    let before = c.args.courses.now.entries in
    let old = c.in-Some.traffic.now in
    let whole : List Delivery = whole_in (tick + 1) ∷ [] in
    let at : Some old ≡ traffic_on before (course p.from p.to own) =
    c.in-Some.ensures.value ∙ ap (traffic_on before) (c.course_of.ensures ∙ ap (λ (q : Parcel). course q.from q.to own) c.get.ensures) in
    let kept = subst (λ (o : Option Traffic). IfSome o (HasLines (filter (may_strike p.from p.to own) s.faults))) (sym at) (keeps p.from p.to own) in
    let number : HasNumber earlier p (next_number (Some old)) = subst (λ (o : Option Traffic). HasNumber earlier p (next_number o)) (sym at) is in
    c.in_ok-place_on_course-in-Some.ensures.ok earlier number t
    ∙ ap (λ (ds : List Delivery). items_in (days_of c.args.days.now.items) t
    ++ items_arriving t (arrivals_up_to s.ticks (map (arrival_of p) (map delivery_as_stored ds))))
    (kept_suffice tick own (next_number (Some old)) earlier p s.faults old whole c.requires.kind number kept)
