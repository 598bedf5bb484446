-- What the function of this folder owes, proved.
use Rattle.nz_msg.proofs.Messages as proofs
use Rattle.nz_msg.proofs.laws.bodies_are_the_grammar.Goals as goal

pub returns : goal.returns
returns c = λ kind bytes message fits. (proofs.body_takes kind bytes message fits, proofs.body_spelled kind bytes message)
