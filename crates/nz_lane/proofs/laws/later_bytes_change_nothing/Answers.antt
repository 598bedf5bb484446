-- What the function of this folder owes, proved.
use Rattle.nz_lane.proofs.Sizes.{item_stays}
use Rattle.nz_lane.proofs.Read.{settled_whole}
use Rattle.nz_lane.proofs.laws.later_bytes_change_nothing.Goals as goal

pub returns : goal.returns
returns c = λ bytes more settled. item_stays bytes more (settled_whole bytes settled)
