-- What the function of this folder owes, proved.
use Rattle.std.proofs.lemmas.List.{get_or_default}
use Rattle.nz_fabric.proofs.calendars.Numbering.{one_line}
use Rattle.nz_fabric.proofs.schedule.faults.faulted_by_all.Goals as goal

pub loop-fault-preserved : goal.loop-fault-preserved
loop-fault-preserved c = λ earlier ds h first.
    one_line c.args.tick earlier c.args.parcel.now c.args.faults.now
    ds c.loop-fault.fault-index _ c.loop-fault.deliveries.items c.faulted.new.deliveries.items c.loop-fault-test.true
    (get_or_default c.args.faults.now c.loop-fault.fault-index _ _ c.loop-fault-test.true)
    (c.loop-fault.invariant earlier ds h first) (λ ds e. c.in_ok-faulted.ensures earlier ds h e)
