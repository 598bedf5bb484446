-- What the function of this folder owes, proved.
use Rattle.std.proofs.Common.{arith}
use Rattle.nz_script.proofs.Written.{script_written}
use Rattle.nz_script.proofs.printing.put_scripts.Goals as goal

pub loop-script-preserved : goal.loop-script-preserved
loop-script-preserved c = record {
  written =
      script_written c.loop-script.out.items c.put_line.new.out.items c.put_script.new.out.items _ c.loop-script.client
      c.loop-script.script-index c.args.scripts.now c.script-item.result c.as_slice.result.now
      c.loop-script-test.true c.script-item.is c.as_slice.ensures c.in_ok-put_line.ensures c.in_ok-put_script.ensures c.loop-script.invariant.written;
  counted = omega (arith, c.loop-script.invariant.counted);
}
