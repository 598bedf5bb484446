-- What the loops of the function of this folder keep.
use Rattle.nz_machine.specs.journals.Journals.{group_in}
use Rattle.nz_replay.specs.Runs.{run_up_to}
use Rattle.nz_replica.specs.Models.{IsCore}
use Rattle.nz_observe.specs.Following.{IsEndOf}
use Rattle.nz_observe.specs.Observing.{IsObserving}
use Rattle.nz_observe.proofs.observing.watch.Given as goal

abbrev pub invariant-loop-before : goal.invariant-loop-before
invariant-loop-before l = record {
  end : IsEndOf l.journal l.before l.count;
  core : IsCore (group_in l.journal) (run_up_to l.journal l.count) l.number l.replica;
  observing : IsObserving (group_in l.journal) l.number l.key l.before (run_up_to l.journal l.count) l.observer;
}
