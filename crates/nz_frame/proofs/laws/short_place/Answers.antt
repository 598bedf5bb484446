-- What the function of this folder owes, proved.
use Rattle.nz_frame.proofs.Readings as readings
use Rattle.nz_frame.proofs.laws.short_place.Goals as goal

pub returns : goal.returns
returns c = readings.short_place
