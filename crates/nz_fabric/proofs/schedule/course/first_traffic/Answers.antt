-- What the function of this folder owes, proved.
use Rattle.std.proofs.Common.{◌∙◌}
use Rattle.std.proofs.lemmas.List.{get_or_default}
use Rattle.nz_fabric.specs.schedule.Calendars.{may_strike}
use Rattle.nz_fabric.proofs.calendars.Striking.{one_kept}
use Rattle.nz_fabric.proofs.schedule.course.first_traffic.Goals as goal

pub loop-fault-preserved : goal.loop-fault-preserved
loop-fault-preserved c =
    let p = c.args.parcel.now in
    let lines = c.args.faults.now in
    let i = c.loop-fault.fault-index in
    let lt = c.loop-fault-test.true in
    let kept = c.in_ok-keep_line.ensures in
    record {
      count = c.keep_line.ensures.count ∙ c.loop-fault.invariant.count;
      lines =
          one_kept (may_strike p.from p.to c.args.kind) lines i _ c.loop-fault.traffic c.keep_line.new.traffic lt (get_or_default lines i _ _ lt)
          c.loop-fault.invariant.lines kept.blocks kept.named;
    }
