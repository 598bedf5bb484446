-- What the function of this folder owes, proved.
use Rattle.nz_machine.proofs.runs.ParcelMembers.{receiver_is_member}
use Rattle.nz_machine.proofs.laws.receivers_take_part.Goals as goal

pub returns : goal.returns
returns c = receiver_is_member
