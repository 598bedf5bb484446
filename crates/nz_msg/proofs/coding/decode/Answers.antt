-- What the function of this folder owes, proved.
use Rattle.nz_msg.proofs.Envelopes.{all_spelled, all_decoded}
use Rattle.nz_msg.proofs.coding.decode.Goals as goal

pub returns-clause-spelled : goal.returns-clause-spelled
returns-clause-spelled c = all_spelled c.args.frame.now c.read.result c.read.ensures.bytes c.read.ensures.decoded

pub returns-clause-every_frame : goal.returns-clause-every_frame
returns-clause-every_frame c = all_decoded c.args.frame.now c.read.result c.read.ensures.decoded c.read.ensures.refused
