-- What the function of this folder owes, proved.
use Rattle.nz_digest.proofs.Bytes.{xor_bytes-twice}
use Rattle.nz_digest.proofs.Keys.{length-digest, digest-push, digest-rearranged}
use Rattle.nz_digest.proofs.laws.digests_fold_keys_in.Goals as goal

pub returns : goal.returns
returns c = record { twenty_bytes = length-digest; twice_is_nothing = xor_bytes-twice; folds_one_more = digest-push; any_order = digest-rearranged }
