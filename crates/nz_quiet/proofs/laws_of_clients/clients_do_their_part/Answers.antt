-- What the function of this folder owes, proved.
use Rattle.nz_quiet.proofs.ClientsHear.{client_tick}
use Rattle.nz_quiet.proofs.laws_of_clients.clients_do_their_part.Goals as goal

pub returns : goal.returns
returns c = client_tick
