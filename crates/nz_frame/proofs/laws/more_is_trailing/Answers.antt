-- What the function of this folder owes, proved.
use Rattle.nz_frame.proofs.Readings as readings
use Rattle.nz_frame.proofs.laws.more_is_trailing.Goals as goal

pub returns : goal.returns
returns c = readings.more_is_trailing
