-- What the loops of the function of this folder keep.
use Rattle.std.specs.Prelude.{◌≡◌, MatchOption, MatchResult}
use Rattle.nz_run.proofs.workers.play_batches.Given as goal

abbrev pub invariant-batches : goal.invariant-batches
invariant-batches g l = (l.worker.share.parts ≡ l.initial.worker.share.parts)
    × MatchResult l.taken (λ next. MatchOption next (l.worker.share.amount ≡ 0) (λ _. l.worker.share.amount ≡ 1)) (λ _. l.worker.share.amount ≡ 0)
