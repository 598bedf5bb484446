-- What the function of this folder owes, proved.
use Rattle.std.proofs.Common.{sym}
use Rattle.nz_merge.proofs.Search.{command_found, command_none}
use Rattle.nz_merge.proofs.reports.copy_command.Goals as goal

pub returns-in-Some : goal.returns-in-Some
returns-in-Some c =
    let here = c.in-Some.ensures.found in
    let same = command_found c.args.log.now c.in-Some.place c.args.key c.index-log-place.result c.requires here.0 here.1 in
    rw same c.copy.ensures

pub returns-in-None : goal.returns-in-None
returns-in-None c = rw (command_none c.args.log.now c.args.key (sym (c.in-None.ensures.is_there c.requires))) c.from_slice.ensures
