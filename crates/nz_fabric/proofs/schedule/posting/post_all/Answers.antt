-- What the function of this folder owes, proved.
use Rattle.std.proofs.Common.{◌++◌, List, take, drop, subst, take_all, arith}
use Rattle.nz_machine.specs.declared.event.Record.{Record}
use Rattle.nz_fabric.specs.schedule.Calendars.{Represents, posted_by}
use Rattle.nz_fabric.proofs.calendars.Sending.{record_at, one_record, some_records, on_err}
use Rattle.nz_fabric.proofs.schedule.posting.post_all.Goals as goal

pub loop-place-preserved : goal.loop-place-preserved
loop-place-preserved c =
    let s = c.args.scenario.now in
    let rs = c.args.records.now.records in
    let k = c.loop-place.place in
    let from = c.loop-place.invariant.from in
    let lt = c.loop-place-test.true in
    let len = c.len-place-end.ensures in
    let at = record_at rs k (omega (arith, lt, len)) in
    record {
      from = omega (arith, from);
      posted = λ L now h.
          one_record s L now c.post_record.new.calendar rs c.args.from k at.0 from at.1
          (c.in_ok-post_record.ensures.ok (L ++ posted_by (drop c.args.from (take k rs))) now at.0 at.1 (c.loop-place.invariant.posted L now h));
    }

pub returns-clause-ok : goal.returns-clause-ok
returns-clause-ok c = λ L now h.
    let ge = c.loop-place-test.false in
    let len = c.len-place-end.ensures in
    subst (λ (rs : List Record). Represents c.args.scenario.now (L ++ posted_by (drop c.args.from rs)) now c.loop-place.calendar)
    (take_all c.loop-place.place c.args.records.now.records (omega (arith, ge, len))) (c.loop-place.invariant.posted L now h)

pub returns-in_err-post_record-clause-err : goal.returns-in_err-post_record-clause-err
returns-in_err-post_record-clause-err c = λ L now h.
    let s = c.args.scenario.now in
    let rs = c.args.records.now.records in
    let k = c.loop-place.place in
    let lt = c.loop-place-test.true in
    let len = c.len-place-end.ensures in
    let at = record_at rs k (omega (arith, lt, len)) in
    on_err c.from_residual.result _
    (some_records s L now c.post_record.new.calendar rs c.args.from k at.0 c.loop-place.invariant.from at.1
    (c.in_err-post_record.ensures.err (L ++ posted_by (drop c.args.from (take k rs))) now at.0 at.1 (c.loop-place.invariant.posted L now h)))
