-- What the function of this folder owes, proved.
use Rattle.nz_laws_commit.proofs.Stabling as stabling
use Rattle.nz_laws_commit.proofs.laws.committed_prefixes_are_stable.Goals as goal

pub returns-clause-stable : goal.returns-clause-stable
returns-clause-stable c = stabling.stable

pub returns-clause-accepted : goal.returns-clause-accepted
returns-clause-accepted c = stabling.comparable_with_accepted
