-- What the function of this folder owes, proved.
use Rattle.nz_lane.proofs.Read.{read_own, only_spelled}
use Rattle.nz_lane.proofs.laws.only_items_are_read.Goals as goal

pub returns-clause-valid : goal.returns-clause-valid
returns-clause-valid c = λ bytes item fits e. (read_own bytes item fits e).valid

pub returns-clause-spelled : goal.returns-clause-spelled
returns-clause-spelled c = only_spelled
