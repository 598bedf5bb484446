-- What the function of this folder owes, proved.
use Rattle.nz_quiet.proofs.ClientsFlight.{client_may_hear, are_young}
use Rattle.nz_quiet.proofs.laws_of_clients.clients_hear_what_they_may.Goals as goal

pub returns-clause-heard : goal.returns-clause-heard
returns-clause-heard c = client_may_hear

pub returns-clause-young : goal.returns-clause-young
returns-clause-young c = are_young
