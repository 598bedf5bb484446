-- What the function of this folder owes, proved.
use Rattle.std.proofs.Common.{refl}
use Rattle.nz_fabric.proofs.schedule.ticks.Ticks.new.Goals as goal

pub returns : goal.returns
returns c = record { state = refl; stands = c.new-calendar.ensures.stands c.args.scenario refl }
