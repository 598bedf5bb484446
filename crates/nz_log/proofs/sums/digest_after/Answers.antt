-- What the function of this folder owes, proved.
use Rattle.std.proofs.Common.{◌≡◌, List, ℕ, ap, sym, ◌∙◌}
use Rattle.nz_base.specs.declared.key.Entry.{Entry}
use Rattle.nz_digest.specs.Digests.{xor_bytes}
use Rattle.nz_log.specs.Places.{digest_of_log}
use Rattle.nz_log.specs.Keeping.{IsSummed}
use Rattle.nz_log.proofs.Summing.{sum_some, sum_none}
use Rattle.nz_log.proofs.sums.digest_after.Goals as goal
use Rattle.nz_log.proofs.sums.digest_after.Goals.{in-Some, in-None}

-- what is folded on is the digest of all entries
before : (c : goal.After-fold_in) (es : List Entry) → IsSummed es c.args.digests.now → c.match-last.digest ≡ digest_of_log es
before c es old =
    elim c.match-last.branch [
      | in-Some w ↦ w.digest-is ∙ sum_some es c.args.digests.now w.in-Some.last.now old (sym w.in-Some.ensures.value)
      | in-None w ↦ w.digest-is ∙ w.zero-digest.ensures ∙ sum_none es c.args.digests.now old (sym w.in-None.ensures.value)
    ]

pub returns : goal.returns
returns c es old =
    c.fold_in.ensures ∙ ap (λ (d : List ℕ). xor_bytes d c.of_entry.result) (before c es old) ∙ ap (xor_bytes (digest_of_log es)) c.of_entry.ensures
