-- What the function of this folder owes, proved.
use Rattle.nz_laws_commit.specs.Machines.{machine_of}
use Rattle.nz_laws_commit.proofs.Deciding.{slowly, quickly}
use Rattle.nz_laws_commit.proofs.OneView.{run_laws}
use Rattle.nz_laws_commit.proofs.laws.quorums_support.Goals as goal

pub returns-clause-slow : goal.returns-clause-slow
returns-clause-slow h c = λ g J K v P test m led enough each. slowly (machine_of g) J (run_laws g J m) v P K led test enough each

pub returns-clause-fast : goal.returns-clause-fast
returns-clause-fast h c = λ g J K v P test m led enough each. quickly (machine_of g) J (run_laws g J m) v P K led test enough each
