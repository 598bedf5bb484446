-- What the loops of the function of this folder keep.
use Rattle.std.specs.Prelude.{◌≡◌, ◌+◌, vec_len, vec_capacity, sum_by, All}
use Rattle.nz_base.specs.declared.limits.TheConstants.{MAX_WORKERS}
use Rattle.nz_run.proofs.shares.deal.Given as goal

abbrev pub invariant-dealt : goal.invariant-dealt
invariant-dealt g l =
    (l.rest.parts + vec_len l.workers ≡ MAX_WORKERS) × (vec_len l.workers + 1 ≡ l.number) × (l.rest.amount ≡ 0)
    × (sum_by (λ w. w.share.parts) l.workers.items ≡ vec_len l.workers) × All (λ w. w.share.amount ≡ 0) l.workers.items
    × (vec_capacity l.workers ≡ vec_capacity l.initial.workers)
