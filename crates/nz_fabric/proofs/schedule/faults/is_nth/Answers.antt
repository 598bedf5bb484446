-- What the function of this folder owes, proved.
use Rattle.std.proofs.Common.{◌∙◌}
use Rattle.nz_fabric.proofs.calendars.Numbering.{struck_by_number}
use Rattle.nz_fabric.proofs.schedule.faults.is_nth.Goals as goal

pub returns : goal.returns
returns c = λ earlier h. c.is_numbered.ensures ∙ struck_by_number c.args.from c.args.to c.args.kind c.args.count c.args.number earlier c.args.parcel.now h
