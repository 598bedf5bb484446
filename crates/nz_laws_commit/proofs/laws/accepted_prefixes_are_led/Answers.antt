-- What the function of this folder owes, proved.
use Rattle.nz_laws_commit.proofs.Led.{accepted_led}
use Rattle.nz_laws_commit.proofs.laws.accepted_prefixes_are_led.Goals as goal

pub returns : goal.returns
returns c = accepted_led
