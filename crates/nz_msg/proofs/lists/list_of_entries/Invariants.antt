-- What the loops of the function of this folder keep.
use Rattle.std.proofs.Common.{◌≡◌, ◌-◌, []}
use Rattle.nz_msg.specs.Codec.{items_at}
use Rattle.nz_msg.specs.Fields.{next_entry}
use Rattle.nz_msg.specs.Reading.{AreNoted}
use Rattle.nz_msg.proofs.Loops.{with_earlier}
use Rattle.nz_msg.proofs.lists.list_of_entries.Given as goal

-- what was read, and what is read of the rest, is what is read of all; and the set has the ids of what was read
abbrev pub invariant-loop : goal.invariant-loop
invariant-loop l = record {
  whole : with_earlier l.entries (items_at next_entry l.entries (l.count - l.counter) l.rest) ≡ items_at next_entry [] l.count l.fn.bytes;
  noted : AreNoted l.entries l.ids.keys;
}
