-- What the function of this folder owes, proved.
use Rattle.std.proofs.Common.{List, ◌++◌, map, sym, ap, subst, ◌∙◌, append-nil}
use Rattle.nz_machine.specs.declared.event.Parcel.{Parcel}
use Rattle.nz_machine.specs.runs.Schedule.{Posted, posted_in}
use Rattle.nz_fabric.specs.schedule.Calendars.{Represents}
use Rattle.nz_fabric.proofs.schedule.posting.post_record.Goals as goal

pub returns-in-None-clause-ok : goal.returns-in-None-clause-ok
returns-in-None-clause-ok c = λ L now step at h.
    subst (λ (posted : List Posted). Represents c.args.scenario.now posted now c.args.calendar.now)
    (sym (ap (λ (sends : List Parcel). L ++ map (posted_in step.tick) sends) (c.in-None.ensures step at).silent ∙ append-nil L)) h
