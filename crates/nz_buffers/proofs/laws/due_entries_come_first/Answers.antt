-- What the function of this folder owes, proved.
use Rattle.nz_buffers.proofs.Releasing.{in_turn, left}
use Rattle.nz_buffers.proofs.laws.due_entries_come_first.Goals as goal

pub returns : goal.returns
returns c = record { in_turn = in_turn; left = left }
