-- What the loops of the function of this folder keep.
use Rattle.std.specs.Prelude.{◌≡◌, ◌+◌, ◌≤◌, take, drop, map, length, vec_len, vec_capacity}
use Rattle.nz_machine.specs.declared.journal.Item.{Item}
use Rattle.nz_fabric.proofs.schedule.agenda.move_events.Given as goal

abbrev pub invariant-loop-place : goal.invariant-loop-place
invariant-loop-place l = record {
  len : vec_len l.events ≡ l.place;
  room : l.count ≤ vec_capacity l.events;
  moved : l.events.items ≡ map (λ (i : Item). i.event) (take l.place (drop l.from l.initial.items.items));
  left : drop (l.from + l.place) l.items.items ≡ drop (l.from + l.place) l.initial.items.items;
  long : length l.items.items ≡ length l.initial.items.items;
}
