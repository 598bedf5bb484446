-- What the function of this folder owes, proved.
use Rattle.nz_laws_commit.proofs.Committing.{led_results}
use Rattle.nz_laws_commit.proofs.laws.leader_executes_its_log.Goals as goal

pub returns : goal.returns
returns c = led_results
