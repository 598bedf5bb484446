-- What the function of this folder owes, proved.
use Rattle.nz_frame.proofs.Readings as readings
use Rattle.nz_frame.proofs.laws.only_frames_pass.Goals as goal

pub returns : goal.returns
returns c = readings.only_frames
