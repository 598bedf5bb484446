-- What the function of this folder owes, proved.
use Rattle.nz_cv.proofs.Merging.{merged-own}
use Rattle.nz_cv.proofs.Collecting.{never_falls, takes_in, adds_nothing, idempotent}
use Rattle.nz_cv.proofs.laws.merged_vectors_never_fall.Goals as goal

pub returns : goal.returns
returns c = record { own_stays = merged-own; never_falls = never_falls; takes_in = takes_in; adds_nothing = adds_nothing; idempotent = idempotent }
