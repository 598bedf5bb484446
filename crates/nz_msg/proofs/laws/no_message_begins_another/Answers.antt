-- What the function of this folder owes, proved.
use Rattle.nz_msg.proofs.Envelopes as proofs
use Rattle.nz_msg.proofs.laws.no_message_begins_another.Goals as goal

pub returns : goal.returns
returns c = proofs.no_prefix
