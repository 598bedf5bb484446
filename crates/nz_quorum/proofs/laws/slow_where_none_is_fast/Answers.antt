-- What the function of this folder owes, proved.
use Rattle.nz_quorum.proofs.Choosing.{slow_has_quorum, quorum_is_slow}
use Rattle.nz_quorum.proofs.laws.slow_where_none_is_fast.Goals as goal

pub returns : goal.returns
returns c = λ f replies. (slow_has_quorum f replies, λ h. quorum_is_slow f replies h.0 h.1)
