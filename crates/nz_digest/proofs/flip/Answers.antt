-- What the function of this folder owes, proved.
use Rattle.std.proofs.Common.{arith}
use Rattle.nz_digest.proofs.Bytes.{xor_bytes-flipped}
use Rattle.nz_digest.proofs.flip.Goals as goal

pub returns : goal.returns
returns c = xor_bytes-flipped _ _ _ _ (omega arith) (omega arith) c.loop-place.invariant
