-- What the loops of the function of this folder keep.
use Rattle.std.proofs.Common.{◌≡◌, ◌++◌}
use Rattle.std.specs.Vec.Iter.{into_iter_items}
use Rattle.nz_machine.specs.journals.EventNotes.{all_at}
use Rattle.nz_machine.proofs.event_notes.add.Given as goal

abbrev pub invariant-loop-event : goal.invariant-loop-event
invariant-loop-event l = record {
  can_next : (goal.iterator-loop-event).can_next l.event-iterator;
  is_finite : (goal.iterator-loop-event).is_finite l.event-iterator;
  all : l.events ++ all_at l.place l.tick (into_iter_items l.event-iterator) ≡ l.fn.events ++ all_at l.place l.tick l.fn.found;
}
