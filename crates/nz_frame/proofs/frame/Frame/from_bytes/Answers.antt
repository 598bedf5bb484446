-- What the function of this folder owes, proved.
use Rattle.std.proofs.Common.{◌≡◌, min, length, take, ap, subst, ◌∙◌, arith}
use Rattle.nz_frame.specs.Grammar.{AreBytes}
use Rattle.nz_frame.proofs.Headers.{parted}
use Rattle.nz_frame.proofs.frame.Frame.from_bytes.Goals as goal

pub invariant_of-result : goal.invariant_of-result
invariant_of-result c =
    let size = c.min-size.result in
    let ten : size ≡ min (length c.args.bytes) 10 = omega (arith, c.min-size.ensures, c.len.ensures.value, c.from.ensures) in (
      omega (arith, ten),
      parted size c.args.bytes _ c.advance.new.self ten (c.header_of-header.ensures.header ∙ ap (take size) c.as_slice.ensures)
          c.advance.ensures (subst AreBytes c.as_slice.ensures c.header_of-header.ensures.bytes),
    )
