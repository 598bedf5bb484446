-- What the function of this folder owes, proved.
use Rattle.nz_laws_commit.specs.Machines.{machine_of}
use Rattle.nz_laws_commit.proofs.Deciding.{support_stays}
use Rattle.nz_laws_commit.proofs.OneView.{run_laws}
use Rattle.nz_laws_commit.proofs.LaterStarts.{in_later_starts}
use Rattle.nz_laws_commit.proofs.laws.supported_stays.Goals as goal

pub returns-clause-starts : goal.returns-clause-starts
returns-clause-starts h c = λ g J v P m s. in_later_starts (machine_of g) J (run_laws g J m) v P s

pub returns-clause-later : goal.returns-clause-later
returns-clause-later h c = λ g J K v P m at s. support_stays (machine_of g) J (run_laws g J m) v P K at s
