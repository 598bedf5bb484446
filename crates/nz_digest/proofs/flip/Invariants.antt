-- What the loops of the function of this folder keep.
use Rattle.nz_digest.proofs.Bytes.{Flipped}
use Rattle.nz_digest.proofs.flip.Given as goal

abbrev pub invariant-loop-place : goal.invariant-loop-place
invariant-loop-place l = Flipped l.fn.bytes l.mask l.bytes l.place
