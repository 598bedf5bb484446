-- What the function of this folder owes, proved.
use Rattle.nz_msg.proofs.Envelopes as proofs
use Rattle.nz_msg.proofs.laws.frames_are_the_grammar.Goals as goal

pub returns : goal.returns
returns c = proofs.spells_envelope
