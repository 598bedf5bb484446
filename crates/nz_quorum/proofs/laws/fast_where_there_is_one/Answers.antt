-- What the function of this folder owes, proved.
use Rattle.nz_quorum.proofs.Choosing.{fast_has_quorum, quorum_is_fast}
use Rattle.nz_quorum.proofs.laws.fast_where_there_is_one.Goals as goal

pub returns : goal.returns
returns c = λ f replies. (fast_has_quorum f replies, quorum_is_fast f replies)
