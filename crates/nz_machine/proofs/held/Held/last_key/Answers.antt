-- What the function of this folder owes, proved.
use Rattle.std.proofs.Common.{sym}
use Rattle.nz_base.proofs.Logs.{above_none, above_some}
use Rattle.nz_machine.proofs.held.Held.last_key.Goals as goal

pub returns-in-None : goal.returns-in-None
returns-in-None c key = sym (above_none c.args.self.now.log.entries key (sym c.in-None.ensures))

pub returns-in-Some : goal.returns-in-Some
returns-in-Some c key = sym (above_some c.args.self.now.log.entries key c.in-Some.entry.now (sym c.in-Some.ensures))
