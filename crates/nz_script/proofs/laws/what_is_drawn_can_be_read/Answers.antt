-- What the function of this folder owes, proved.
use Rattle.nz_script.proofs.Generated.{drawn_valid, drawn_read_back}
use Rattle.nz_script.proofs.laws.what_is_drawn_can_be_read.Goals as goal

pub returns-clause-valid : goal.returns-clause-valid
returns-clause-valid c = drawn_valid

pub returns-clause-read_back : goal.returns-clause-read_back
returns-clause-read_back c = drawn_read_back
