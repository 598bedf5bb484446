-- What the function of this folder owes, proved.
use Rattle.nz_frame.proofs.Readings as readings
use Rattle.nz_frame.proofs.laws.one_reading.Goals as goal

pub returns : goal.returns
returns c = readings.one_reading
