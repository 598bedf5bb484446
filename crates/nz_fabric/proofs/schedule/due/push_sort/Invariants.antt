-- What the loops of the function of this folder keep.
use Rattle.std.proofs.Common.{◌≡◌, ◌+◌, ◌++◌, length, map}
use Rattle.std.specs.Prelude.{vec_capacity}
use Rattle.nz_machine.specs.rules.Replicas.{numbers_below}
use Rattle.nz_machine.specs.runs.Schedule.{tick_item}
use Rattle.nz_fabric.specs.schedule.Dues.{actor_of_sort}
use Rattle.nz_fabric.proofs.schedule.due.push_sort.Given as goal

abbrev pub invariant-loop-number : goal.invariant-loop-number
invariant-loop-number l = record {
  items : l.items.items ≡ l.initial.items.items ++ map (tick_item l.scenario l.tick) (map (actor_of_sort l.sort) (numbers_below l.number));
  len : length l.items.items ≡ length l.initial.items.items + l.number;
  capacity : vec_capacity l.items ≡ vec_capacity l.initial.items;
}
