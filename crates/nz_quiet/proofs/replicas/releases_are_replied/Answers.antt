-- What the function of this folder owes, proved.
use Rattle.nz_quiet.proofs.ReleaseReplies.{each_released, only_released}
use Rattle.nz_quiet.proofs.replicas.releases_are_replied.Goals as goal

pub returns-clause-each : goal.returns-clause-each
returns-clause-each c = each_released

pub returns-clause-only : goal.returns-clause-only
returns-clause-only c = only_released
