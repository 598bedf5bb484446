-- What the function of this folder owes, proved.
use Rattle.nz_laws_commit.proofs.FourRecords as four
use Rattle.nz_laws_commit.proofs.laws.a_run_follows_the_rules.Goals as goal

pub returns-clause-rules : goal.returns-clause-rules
returns-clause-rules c = four.rules

pub returns-clause-support : goal.returns-clause-support
returns-clause-support c = four.support

pub returns-clause-begun : goal.returns-clause-begun
returns-clause-begun c = four.started
