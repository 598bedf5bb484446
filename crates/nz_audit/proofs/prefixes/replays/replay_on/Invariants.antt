-- What the loops of the function of this folder keep.
use Rattle.nz_machine.specs.journals.Journals.{group_in}
use Rattle.nz_replica.specs.Models.{IsCore}
use Rattle.nz_replay.specs.Runs.{run_up_to}
use Rattle.nz_audit.proofs.prefixes.replays.replay_on.Given as goal

abbrev pub invariant-loop-place : goal.invariant-loop-place
invariant-loop-place l = IsCore (group_in l.journal) (run_up_to l.journal l.place) l.number l.core
