-- What the function of this folder owes, proved.
use Rattle.nz_store.proofs.Spellings.{no_prefix}
use Rattle.nz_store.proofs.laws.no_command_begins_another.Goals as goal

pub returns : goal.returns
returns c = no_prefix
