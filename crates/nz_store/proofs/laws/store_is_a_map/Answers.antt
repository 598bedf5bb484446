-- What the function of this folder owes, proved.
use Rattle.nz_store.proofs.Maps.{value_of-with_value, value_of-without, IsMap-store_after}
use Rattle.nz_store.proofs.laws.store_is_a_map.Goals as goal

pub returns-clause-set : goal.returns-clause-set
returns-clause-set c = value_of-with_value

pub returns-clause-removed : goal.returns-clause-removed
returns-clause-removed c = value_of-without

pub returns-clause-once : goal.returns-clause-once
returns-clause-once c = IsMap-store_after
