-- What the function of this folder owes, proved.
use Rattle.nz_quiet.proofs.Flight.{parcels_are, outs_are}
use Rattle.nz_quiet.proofs.schedule.flight_is_of_actors.Goals as goal

pub returns-clause-parcels : goal.returns-clause-parcels
returns-clause-parcels c = parcels_are

pub returns-clause-outs : goal.returns-clause-outs
returns-clause-outs c = outs_are
