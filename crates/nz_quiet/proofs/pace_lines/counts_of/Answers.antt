-- What the function of this folder owes, proved.
use Rattle.nz_quiet.proofs.PaceParts.{above_next, count_next}
use Rattle.nz_quiet.proofs.pace_lines.counts_of.Goals as goal

pub loop-pace-preserved : goal.loop-pace-preserved
loop-pace-preserved c =
    let ps = c.args.paces.now in
    let i = c.loop-pace.pace-index in
    record {
      len = above_next ps i _ _ _ c.loop-pace-test.true c.loop-pace.invariant.len c.in_ok-count_pace.ensures.len;
      counts = λ n. count_next ps i n _ _ _ c.loop-pace-test.true (c.loop-pace.invariant.counts n) (c.in_ok-count_pace.ensures.counts n);
    }
