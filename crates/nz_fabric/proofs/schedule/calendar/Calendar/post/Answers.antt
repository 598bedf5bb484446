-- What the function of this folder owes, proved.
use Rattle.std.proofs.Common.{◌∙◌, refl, sym, ap, subst, arith}
use Rattle.std.proofs.lemmas.List.{length-map}
use Rattle.nz_machine.specs.runs.Schedule.{Posted}
use Rattle.nz_fabric.specs.schedule.Calendars.{Dates, Represents, parcels_of, items_in}
use Rattle.nz_fabric.specs.schedule.Posting.{arrivals_by, days_of}
use Rattle.nz_fabric.proofs.calendars.Numbering.{numbered}
use Rattle.nz_fabric.proofs.calendars.Dating.{posted_one, stands_by}
use Rattle.nz_fabric.proofs.calendars.Sending.{on_err}
use Rattle.nz_fabric.proofs.schedule.calendar.Calendar.post.Goals as goal

pub returns-clause-ok : goal.returns-clause-ok
returns-clause-ok c = λ L now h.
    let s = c.args.scenario.now in
    let p = c.args.parcel.now in
    let f = c.self.inside in
    let old : Dates = record { parcels = f.parcels; watched = f.watched; courses = f.courses.entries; days = days_of f.days.items } in
    let h' : Represents s L now old = subst (Represents s L now) (sym c.self.view_is) h in
    let parcels = h'.parcels in
    let same = ap (λ (d : Dates). d.parcels) c.self.view_is in
    let long = length-map L (λ (x : Posted). x.parcel) in
    let is = numbered s.faults (parcels_of L) p f.courses.entries h'.counts (omega (arith, long, parcels, same, c.requires.few)) in
    posted_one s L now old _ c.args.tick p (arrivals_by s.ticks c.args.tick (parcels_of L) p s.faults) h'
    (let k = c.requires.playable.ticks in omega (arith, k)) is refl refl (c.in_ok-post_parcel.ensures.counted h'.watched h'.lines) refl
    (c.in_ok-post_parcel.ensures.placed h'.watched h'.lines (parcels_of L) is)

-- ---- where memory runs out

pub returns-in_err-post_parcel-clause-err : goal.returns-in_err-post_parcel-clause-err
returns-in_err-post_parcel-clause-err c = λ s L now h.
    on_err _ _ (stands_by s L now c.args.self.now _ (ap (λ (d : Dates). d.parcels) c.self.view_is) (ap (λ (d : Dates). d.watched) c.self.view_is)
    (c.in_err-post_parcel.ensures.err.0 ∙ ap (λ (d : Dates). d.courses) c.self.view_is)
    (λ t after. c.in_err-post_parcel.ensures.err.1 t ∙ ap (λ (d : Dates). items_in d.days t) c.self.view_is) h)
