-- What the function of this folder owes, proved.
use Rattle.std.proofs.Common.{refl}
use Rattle.nz_fabric.proofs.calendars.Calling.{restarts_step, calls_step, few_step}
use Rattle.nz_fabric.proofs.schedule.due.calls_of.Goals as goal

pub loop-fault-preserved : goal.loop-fault-preserved
loop-fault-preserved c =
    let lines = c.args.faults.now in
    let i = c.loop-fault.fault-index in
    let inv = c.loop-fault.invariant in
    let call = c.in_ok-push_call.ensures in
    record {
      few = few_step i _ _ _ inv.few call.restarts;
      restarts = restarts_step lines i _ _ _ _ c.loop-fault-test.true refl inv.restarts call.restarts;
      items = λ tick. calls_step tick lines i _ _ _ _ _ c.loop-fault-test.true refl inv.restarts (inv.items tick) (call.items tick);
    }
