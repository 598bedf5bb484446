-- What the function of this folder owes, proved.
use Rattle.nz_check.proofs.Whole.{exact_printed, exact_texts}
use Rattle.nz_check.proofs.laws.exact.Goals as goal

pub returns : goal.returns
returns c = record { printed = exact_printed; text = exact_texts }
