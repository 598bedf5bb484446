-- What the function of this folder owes, proved.
use Rattle.std.proofs.Common.{map}
use Rattle.nz_script.proofs.CommandWords.{lent_is_valid}
use Rattle.nz_script.proofs.commands.command_first.Goals as goal

pub returns-clause-valid : goal.returns-clause-valid
returns-clause-valid c = lent_is_valid _ c.lent_first.result (map (λ w. w.now) c.args.words.now) c.lent_first.ensures
