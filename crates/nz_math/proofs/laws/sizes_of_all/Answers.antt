-- What the function of this folder owes, proved.
use Rattle.nz_math.proofs.Counting.{count_everyone, count_all_but}
use Rattle.nz_math.proofs.laws.sizes_of_all.Goals as goal

pub returns : goal.returns
returns c = record { every = count_everyone; all_but_one = count_all_but }
