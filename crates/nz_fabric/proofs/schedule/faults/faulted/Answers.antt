-- What the function of this folder owes, proved.
use Rattle.std.proofs.Common.{◌∙◌, map, sym, ap, true, false}
use Rattle.nz_fabric.specs.schedule.Posting.{delivery_as_stored}
use Rattle.nz_fabric.proofs.calendars.Numbering.{faulted_is}
use Rattle.nz_fabric.proofs.schedule.faults.faulted.Goals as goal

pub returns-in_ok-strike : goal.returns-in_ok-strike
returns-in_ok-strike c = λ earlier ds h e.
    c.in_ok-strike.ensures ds e ∙ ap (map delivery_as_stored)
    (sym (faulted_is c.args.tick earlier c.args.parcel.now c.args.fault ds true (sym (c.strikes.ensures earlier h) ∙ c.if-strikes.true)))

pub returns-else-strikes : goal.returns-else-strikes
returns-else-strikes c =
    λ earlier ds h e. e ∙ ap (map delivery_as_stored)
    (sym (faulted_is c.args.tick earlier c.args.parcel.now c.args.fault ds false (sym (c.strikes.ensures earlier h) ∙ c.if-strikes.false)))
