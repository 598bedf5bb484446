-- What the function of this folder owes, proved.
use Rattle.nz_quiet.proofs.Few.{few_entries}
use Rattle.nz_quiet.proofs.replicas.entries_are_few.Goals as goal

pub returns : goal.returns
returns c = few_entries
