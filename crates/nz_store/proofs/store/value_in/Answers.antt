-- What the function of this folder owes, proved.
use Rattle.std.proofs.Common.{◌∙◌}
use Rattle.nz_store.proofs.Tables.{looked_up}
use Rattle.nz_store.proofs.store.value_in.Goals as goal

pub returns : goal.returns
returns c = c.get.ensures.value ∙ looked_up c.args.table.now.entries c.args.key.now
