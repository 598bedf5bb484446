-- What the function of this folder owes, proved.
use Rattle.std.proofs.Common.{◌≡◌, [], ◌++◌, ap, ◌∙◌}
use Rattle.sha1.specs.Sha1.{sha1}
use Rattle.nz_digest.specs.Digests.{key_bytes}
use Rattle.nz_digest.proofs.Digest.of_entry.Goals as goal

pub returns : goal.returns
unfolding key_bytes
returns c =
    let written : c.to_be_bytes.result ++ c.to_be_bytes-2.result ++ c.to_be_bytes-3.result ≡ key_bytes c.args.deadline c.args.client c.args.num =
    λ i. c.to_be_bytes.ensures i ++ c.to_be_bytes-2.ensures i ++ c.to_be_bytes-3.ensures i in
    c.finalize.ensures _ (c.update-3.ensures _ (c.update-2.ensures _ (c.update.ensures [] c.new-hasher.ensures))) ∙ ap sha1 written
