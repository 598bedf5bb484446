-- What the function of this folder owes, proved.
use Rattle.nz_machine.proofs.journals.NotedEvents as noted
use Rattle.nz_machine.proofs.laws.events_are_read.Goals as goal

pub returns : goal.returns
returns c = noted.events_are_read
