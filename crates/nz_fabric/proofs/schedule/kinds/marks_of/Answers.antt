-- What the function of this folder owes, proved.
use Rattle.std.proofs.Common.{false, List, subst, take_all}
use Rattle.std.proofs.lemmas.List.{get_or-replicate, get_or_default}
use Rattle.nz_base.specs.declared.scenario.Fault.{Fault}
use Rattle.nz_fabric.specs.schedule.Calendars.{AreMarked}
use Rattle.nz_fabric.proofs.calendars.Marking.{one_marked}
use Rattle.nz_fabric.proofs.schedule.kinds.marks_of.Goals as goal

pub loop-fault-init : goal.loop-fault-init
loop-fault-init c = λ kind lt. get_or-replicate 256 kind false false lt

pub loop-fault-preserved : goal.loop-fault-preserved
loop-fault-preserved c =
    let lines = c.args.faults.now in
    let i = c.loop-fault.fault-index in
    let lt = c.loop-fault-test.true in
    one_marked lines i _ c.loop-fault.marks c.mark.new.marks lt (get_or_default lines i _ _ lt) c.loop-fault.invariant c.mark.ensures

pub returns : goal.returns
returns c = subst (λ (lines : List Fault). AreMarked lines c.loop-fault.marks)
    (take_all c.loop-fault.fault-index c.args.faults.now c.loop-fault-test.false) c.loop-fault.invariant
