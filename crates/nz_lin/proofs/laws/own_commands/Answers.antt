-- What the function of this folder owes, proved.
use Rattle.nz_laws_commit.proofs.OwnCommands.{own_command}
use Rattle.nz_lin.proofs.laws.own_commands.Goals as goal

pub returns : goal.returns
returns c = own_command
