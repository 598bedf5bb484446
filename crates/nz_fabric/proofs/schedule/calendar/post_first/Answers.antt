-- What the function of this folder owes, proved.
use Rattle.std.proofs.Common.{◌≡◌, ◌∙◌, ◌+◌, ◌++◌, ◌∷◌, [], cond, Some, List, map, sym, ap, subst}
use Rattle.nz_base.specs.declared.scenario.Fault.{Fault}
use Rattle.nz_machine.specs.declared.event.Parcel.{Parcel}
use Rattle.nz_machine.specs.declared.journal.Item.{Item}
use Rattle.nz_machine.specs.runs.Schedule.{Delivery, whole_in, after_faults}
use Rattle.nz_fabric.specs.declared.schedule.calendar.Arrival.{Arrival}
use Rattle.nz_fabric.specs.declared.schedule.course.Course.{Course}
use Rattle.nz_fabric.specs.declared.schedule.deliveries.Delivery.{Delivery as Stored}
use Rattle.nz_fabric.specs.schedule.Calendars.{course, course_eq, items_in, lines_at, next_number, traffic_on}
use Rattle.nz_fabric.specs.schedule.Numbered.{items_under}
use Rattle.nz_fabric.specs.schedule.Posting.{arrival_of, arrivals_by, arrivals_up_to, days_of, delivery_as_stored, items_arriving, HasNumber}
use Rattle.nz_fabric.proofs.calendars.Striking.{kept_by, kept_suffice}
use Rattle.nz_fabric.proofs.schedule.calendar.post_first.Goals as goal

pub returns-clause-counted : goal.returns-clause-counted
returns-clause-counted c =
    let p = c.args.parcel.now in
    let before = c.args.courses.now.entries in
    let traffic = c.in_ok-traffic.traffic in
    let same : c.get-sent.result.now ≡ p = c.get-sent.ensures in
    record {
      traffic = traffic;
      count = c.in_ok-traffic.ensures.count ∙ ap next_number c.requires.first;
      kept = kept_by c.args.kind c.get-sent.result.now p c.as_slice.result.now c.args.scenario.now.faults traffic same c.as_slice.ensures c.in_ok-traffic.ensures.lines;
      courses = λ x.
          c.in_ok-insert.ensures.updates.0 x
          ∙ ap (λ (own : Course). cond (course_eq own x) (Some traffic) (traffic_on before x))
          (c.course_of.ensures ∙ ap (λ (q : Parcel). course q.from q.to c.args.kind) same);
    }

pub returns-clause-placed : goal.returns-clause-placed
returns-clause-placed c = λ earlier is t.
    let p = c.args.parcel.now in
    let s = c.args.scenario.now in
    let tick = c.args.tick in
    let sent = c.get-sent.result.now in
    let same : sent ≡ p = c.get-sent.ensures in
    let traffic = c.in_ok-traffic.traffic in
    let whole : List Delivery = whole_in (tick + 1) ∷ [] in
    let kept = kept_by c.args.kind sent p c.as_slice.result.now s.faults traffic same c.as_slice.ensures c.in_ok-traffic.ensures.lines in
    let left : c.in_ok-deliveries.deliveries.items ≡ map delivery_as_stored (after_faults tick earlier p s.faults whole) =
    c.in_ok-deliveries.ensures earlier (subst (λ (q : Parcel). HasNumber earlier q 1) (sym same) is)
    ∙ ap (λ (lines : List Fault). map delivery_as_stored (after_faults tick earlier sent (c.as_slice-blocks.result.now ++ lines) whole)) c.under-named.ensures
    ∙ ap (λ (lines : List Fault). map delivery_as_stored (after_faults tick earlier sent (lines ++ items_under traffic.named 1) whole)) c.as_slice-blocks.ensures
    ∙ ap (λ (q : Parcel). map delivery_as_stored (after_faults tick earlier q (lines_at 1 traffic) whole)) same
    ∙ ap (map delivery_as_stored) (kept_suffice tick c.args.kind 1 earlier p s.faults traffic whole c.requires.kind is kept) in
    c.place_all.ensures.placed t
    ∙ ap (λ (xs : List Arrival). items_in (days_of c.reserve_arrivals.new.days.items) t ++ items_arriving t xs)
    (c.in_ok-arrivals.ensures.arrivals ∙ ap (λ (ds : List Stored). arrivals_up_to s.ticks (map (arrival_of p) ds)) (c.as_slice-2.ensures ∙ left))
    ∙ ap (λ (is : List Item). is ++ items_arriving t (arrivals_by s.ticks tick earlier p s.faults)) (c.reserve_arrivals.ensures.same t)
