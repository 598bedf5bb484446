-- What the function of this folder owes, proved.
use Rattle.nz_quiet.proofs.Reading.{heard_first, heard_next}
use Rattle.nz_quiet.proofs.schedule.a_tick_is_heard.Goals as goal

pub returns-clause-first : goal.returns-clause-first
returns-clause-first c = heard_first

pub returns-clause-next : goal.returns-clause-next
returns-clause-next c = heard_next
