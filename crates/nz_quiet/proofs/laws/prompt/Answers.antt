-- What the function of this folder owes, proved.
use Rattle.nz_quiet.proofs.Served.{is_prompt}
use Rattle.nz_quiet.proofs.laws.prompt.Goals as goal

pub returns : goal.returns
returns c = is_prompt
