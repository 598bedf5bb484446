-- What the function of this folder owes, proved.
use Rattle.nz_merge.proofs.Merging.{starts, synced_prefix}
use Rattle.nz_merge.proofs.laws.begins_with_synced_part.Goals as goal

pub returns : goal.returns
returns c = record { entries = starts; prefixes = synced_prefix }
