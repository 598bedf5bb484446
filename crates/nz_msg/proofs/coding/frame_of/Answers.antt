-- What the function of this folder owes, proved.
use Rattle.std.proofs.Common.{List, ℕ, length, ap, arith}
use Rattle.nz_msg.proofs.Messages.{body_long}
use Rattle.nz_msg.proofs.coding.frame_of.Goals as goal

pub new-requires-clause-body : goal.new-requires-clause-body
new-requires-clause-body c =
    let long = body_long c.args.message.now c.requires.valid in
    let same = ap (λ (xs : List ℕ). length xs) c.requires.body in
    omega (arith, long, same)
