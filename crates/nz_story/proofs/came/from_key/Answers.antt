-- What the function of this folder owes, proved.
use Rattle.std.proofs.Common.{sym, subst}
use Rattle.nz_base.specs.Log.{AreRising}
use Rattle.nz_story.proofs.Coming.{slice_left, rising_left}
use Rattle.nz_story.proofs.came.from_key.Goals as goal

pub returns-then-not-is_below-clause-rising : goal.returns-then-not-is_below-clause-rising
returns-then-not-is_below-clause-rising c = λ rising.
    subst AreRising (sym (slice_left c.args.keys.now c.loop-place.place)) (rising_left c.args.keys.now c.loop-place.place rising)
