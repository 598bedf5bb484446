-- What the loops of the function of this folder keep.
use Rattle.std.proofs.Common.{◌≡◌}
use Rattle.nz_machine.specs.runs.Schedule.{group_of}
use Rattle.nz_fabric.proofs.several_threads.Pushing.{ArePushed}
use Rattle.nz_fabric.proofs.threads.records.Records.push_all.Given as goal

abbrev pub invariant-loop-event : goal.invariant-loop-event
invariant-loop-event g l = record {
  can_next : (goal.iterator-loop-event g).can_next l.event-iterator;
  is_finite : (goal.iterator-loop-event g).is_finite l.event-iterator;
  room : l.self.room ≡ l.fn.self.room;
  pushed : ArePushed (group_of g.N.RunName.scenario) (record { tick = l.tick; actor = l.actor; events = l.fn.events; sends = l.fn.sends.items })
      l.fn.lane l.lane l.fn.self.records l.self.records l.yielded l.event-iterator.a.rest.items l.event-iterator.b.rest.items;
}
