-- What the function of this folder owes, proved.
use Rattle.nz_window.proofs.Bounds.{windows_start, windows_stay, bound_is_bounded}
use Rattle.nz_window.proofs.laws.windows_stay_small.Goals as goal

pub returns : goal.returns
returns c = record { start = windows_start; stay = windows_stay; bounded = bound_is_bounded }
