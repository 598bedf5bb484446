-- What the function of this folder owes, proved.
use Rattle.std.proofs.Common.{rules, ◌≡◌, ◌∙◌, ◌+◌, ◌∷◌, [], List, map, sym, ap}
use Rattle.nz_machine.specs.runs.Schedule.{Delivery, whole_in, after_faults}
use Rattle.nz_fabric.specs.schedule.Posting.{delivery_as_stored}
use Rattle.nz_fabric.proofs.calendars.Numbering.{faulted_by_both}
use Rattle.nz_fabric.proofs.schedule.faults.deliveries_of.Goals as goal

pub returns : goal.returns
returns c = λ earlier h.
    let p = c.args.parcel.now in
    let whole : List Delivery = whole_in (c.args.tick + 1) ∷ [] in
    let whole_first : c.push.new.self.items ≡ map delivery_as_stored whole = search rules in
    c.in_ok-faulted_by_all-2.ensures earlier (after_faults c.args.tick earlier p c.args.first.now whole) h
    (c.in_ok-faulted_by_all.ensures earlier whole h whole_first)
    ∙ ap (map delivery_as_stored) (sym (faulted_by_both c.args.tick earlier p c.args.first.now c.args.then.now whole))
