-- What the loops of the function of this folder keep.
use Rattle.std.specs.Prelude.{◌≡◌, ◌+◌, vec_len, sum_by, All}
use Rattle.nz_base.specs.declared.limits.TheConstants.{MAX_WORKERS}
use Rattle.nz_run.proofs.shares.gather.Given as goal

abbrev pub invariant-gathered : goal.invariant-gathered
invariant-gathered g l =
    (l.share.parts + sum_by (λ w. w.share.parts) l.workers.items ≡ MAX_WORKERS) × (l.share.amount ≡ 0) × All (λ w. w.share.amount ≡ 0) l.workers.items

abbrev pub decreases-gathered : goal.decreases-gathered
decreases-gathered g l = vec_len l.workers
