-- What the loops of the function of this folder keep.
use Rattle.std.specs.HashSet.{contains}
use Rattle.nz_base.specs.Key.{id_eq}
use Rattle.nz_replay.specs.Runs.{run_up_to}
use Rattle.nz_audit.specs.Readings.{IsRead}
use Rattle.nz_audit.proofs.sources.reading.sendings_in.Given as goal

abbrev pub invariant-loop-place : goal.invariant-loop-place
invariant-loop-place l = IsRead l.journal (contains id_eq l.wanted) (run_up_to l.journal l.place) l.reading
