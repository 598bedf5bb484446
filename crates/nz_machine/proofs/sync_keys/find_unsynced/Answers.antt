-- What the function of this folder owes, proved.
use Rattle.std.proofs.Common.{sym, ◌∙◌}
use Rattle.nz_machine.proofs.facts.Takes.{find_after_synced, find_nowhere, find_at}
use Rattle.nz_machine.proofs.sync_keys.find_unsynced.Goals as goal

pub returns-in-None : goal.returns-in-None
returns-in-None c =
    sym (find_nowhere c.args.log.now.entries c.args.id (sym c.place_of.ensures.value ∙ c.in-None.is)) ∙ find_after_synced c.args.log.now c.args.id c.requires

pub returns-in-Some : goal.returns-in-Some
returns-in-Some c =
    sym (find_at c.args.log.now.entries c.args.id c.in-Some.place c.get.result.now
    (sym c.place_of.ensures.value ∙ c.in-Some.is) c.get.ensures) ∙ find_after_synced c.args.log.now c.args.id c.requires
