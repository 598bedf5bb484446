-- What the function of this folder owes, proved.
use Rattle.nz_script.proofs.RoundTrip.{read_back}
use Rattle.nz_script.proofs.laws.texts_are_read_back.Goals as goal

pub returns : goal.returns
returns c = read_back
