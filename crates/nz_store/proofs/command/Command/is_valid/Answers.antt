-- What the function of this folder owes, proved.
use Rattle.nz_store.proofs.Texts.{validity_is}
use Rattle.nz_store.proofs.command.Command.is_valid.Goals as goal

pub returns : goal.returns
returns c = rw c.is_spelled.ensures (validity_is _)
