-- What the function of this folder owes, proved.
use Rattle.nz_text.proofs.Whole.{read_back}
use Rattle.nz_text.proofs.laws.texts_are_read_back.Goals as goal

pub returns : goal.returns
returns c = λ p h. read_back p h
