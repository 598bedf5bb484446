-- What the function of this folder owes, proved.
use Rattle.std.specs.HashSet.{contains}
use Rattle.nz_base.specs.Key.{id_eq}
use Rattle.nz_replay.specs.Runs.{run_up_to}
use Rattle.nz_audit.proofs.SearchFinds.{is_next}
use Rattle.nz_audit.proofs.SilentTicks.{silent_is_read}
use Rattle.nz_audit.proofs.sources.reading.Reading.read_at.Goals as goal

pub read-requires-clause-run : goal.read-requires-clause-run
read-requires-clause-run c =
    let k = c.args.place in
    (run_up_to c.args.journal.now k, is_next c.args.journal.now k c.in-Some.next.now c.requires.world c.requires.place c.in-Some.ensures, c.requires.run)

pub returns-in-None : goal.returns-in-None
returns-in-None c =
    silent_is_read c.args.journal.now (contains id_eq c.args.wanted.now) c.args.place c.args.self.now
    c.requires.world c.requires.place c.in-None.ensures c.requires.run
