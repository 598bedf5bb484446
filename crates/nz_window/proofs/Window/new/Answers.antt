-- What the function of this folder owes, proved.
use Rattle.std.proofs.Common.{[], arith}
use Rattle.std.proofs.lemmas.List.{take-replicate}
use Rattle.nz_window.proofs.Window.new.Goals as goal

pub returns : goal.returns
returns c = rw c.new.ensures (take-replicate c.args.size 9 [] (omega arith))
