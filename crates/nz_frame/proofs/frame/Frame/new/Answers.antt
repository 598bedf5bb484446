-- What the function of this folder owes, proved.
use Rattle.std.proofs.Common.{◌≡◌, ◌+◌, ◌∷◌, ◌++◌, ℕ, List, length, subst, arith}
use Rattle.byteorder.specs.Endian.{big_bytes}
use Rattle.nz_frame.specs.Grammar.{AreBytes}
use Rattle.nz_frame.proofs.Headers.{written}
use Rattle.nz_frame.proofs.frame.Frame.new.Goals as goal

pub invariant_of-result : goal.invariant_of-result
invariant_of-result c =
    let a = c.args in
    let same = c.as_slice.ensures in
    let spelling = subst (λ (xs : List ℕ). c.header-header.result ≡ big_bytes 4 (6 + length xs) ++ 1 ∷ a.kind ∷ (big_bytes 2 a.from ++ big_bytes 2 a.to))
    same c.header-header.ensures.header in (
      omega arith,
      written a.kind a.from a.to c.header-header.result a.body c.requires.kind c.requires.from c.requires.to c.requires.body
          (subst AreBytes same c.header-header.ensures.bytes) spelling,
    )
