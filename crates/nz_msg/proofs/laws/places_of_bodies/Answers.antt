-- What the function of this folder owes, proved.
use Rattle.nz_msg.proofs.Envelopes as proofs
use Rattle.nz_msg.proofs.laws.places_of_bodies.Goals as goal

pub returns : goal.returns
returns c = λ bytes place fits h. let p = proofs.place_in_body bytes place fits h in (p.after_header, p.in_frame)
