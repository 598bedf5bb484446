-- What the function of this folder owes, proved.
use Rattle.std.proofs.Common.{get_or}
use Rattle.nz_quiet.specs.Pace.{ticks_line}
use Rattle.nz_quiet.proofs.PaceParts.{lines_next}
use Rattle.nz_quiet.proofs.pace_lines.put_counts.Goals as goal

pub loop-ticks-preserved : goal.loop-ticks-preserved
loop-ticks-preserved c =
    lines_next (λ n. ticks_line n (get_or c.args.counts.now n 0)) c.loop-ticks.ticks c.args.out.now.items c.loop-ticks.out.items
    c.put_ticks.new.out.items c.loop-ticks.invariant c.in_ok-put_ticks.ensures
