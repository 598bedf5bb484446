-- What the function of this folder owes, proved.
use Rattle.std.specs.HashSet.{contains}
use Rattle.nz_base.specs.Key.{id_eq}
use Rattle.nz_audit.proofs.sources.reading.sendings_in.Goals as goal

pub loop-place-init : goal.loop-place-init
loop-place-init c = c.new-reading.ensures c.args.journal.now (contains id_eq c.args.wanted.now)
