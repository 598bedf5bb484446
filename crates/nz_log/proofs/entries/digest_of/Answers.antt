-- What the function of this folder owes, proved.
use Rattle.std.proofs.Common.{List, ℕ, ap, sym, ◌∙◌}
use Rattle.nz_digest.specs.Digests.{xor_bytes}
use Rattle.nz_log.proofs.Digests.{digest_more}
use Rattle.nz_log.proofs.entries.digest_of.Goals as goal

pub loop-entry-preserved : goal.loop-entry-preserved
loop-entry-preserved c =
    c.fold_in.ensures
    ∙ ap (λ (d : List ℕ). xor_bytes d c.of_entry.result) c.loop-entry.invariant
    ∙ ap (xor_bytes _) c.of_entry.ensures
    ∙ sym (digest_more c.args.entries.now c.loop-entry.entry-index c.entry-item.result c.loop-entry-test.true c.entry-item.is)
