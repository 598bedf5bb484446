-- What the function of this folder owes, proved.
use Rattle.nz_laws_commit.specs.Machines.{machine_of}
use Rattle.nz_laws_commit.proofs.OneView.{run_laws}
use Rattle.nz_laws_commit.proofs.LaterStarts.{pairs}
use Rattle.nz_laws_commit.proofs.laws.supports_are_comparable.Goals as goal

pub returns : goal.returns
returns h c = λ g J v w P Q m s t. pairs (machine_of g) J (run_laws g J m) v w P Q s t
