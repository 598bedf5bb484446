-- What the function of this folder owes, proved.
use Rattle.nz_msg.proofs.Envelopes as proofs
use Rattle.nz_msg.proofs.laws.cut_message_is_short.Goals as goal

pub returns : goal.returns
returns c = proofs.cut_is_short
