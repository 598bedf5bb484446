-- What the function of this folder owes, proved.
use Rattle.std.proofs.Common.{◌∙◌, drop, arith}
use Rattle.byteorder.specs.Numbers.{big_from-take}
use Rattle.nz_frame.proofs.Headers.{shown_frame}
use Rattle.nz_frame.proofs.frame.Frame.known_parts.Goals as goal

pub returns : goal.returns
returns c =
    let f = c.self.inside in
    shown_frame f.checked f.size f.header f.body c.args.self.now _ _ _ c.self.invariant.1 c.self.view_is c.requires
    (c.read_u16.ensures ∙ big_from-take 0 2 4 (drop 6 f.header) (omega arith)) (c.read_u16-2.ensures ∙ big_from-take 0 2 2 (drop 8 f.header) (omega arith))
    c.as_slice.ensures
