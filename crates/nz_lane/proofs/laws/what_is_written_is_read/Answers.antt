-- What the function of this folder owes, proved.
use Rattle.nz_lane.proofs.Spelled.{written}
use Rattle.nz_lane.proofs.laws.what_is_written_is_read.Goals as goal

pub returns : goal.returns
returns c = written
