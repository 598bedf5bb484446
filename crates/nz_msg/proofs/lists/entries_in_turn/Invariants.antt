-- What the loops of the function of this folder keep.
use Rattle.std.proofs.Common.{◌≡◌, ◌-◌, []}
use Rattle.nz_base.specs.Log.{keys_of}
use Rattle.nz_msg.specs.Codec.{items_at}
use Rattle.nz_msg.specs.Fields.{next_entry}
use Rattle.nz_msg.specs.RisingIds.{AreInTurn}
use Rattle.nz_msg.proofs.Loops.{with_earlier}
use Rattle.nz_msg.proofs.lists.entries_in_turn.Given as goal

-- what was read, and what is read of the rest, is what is read of all; and what was read came in turn
abbrev pub invariant-loop : goal.invariant-loop
invariant-loop l = record {
  whole : with_earlier l.entries (items_at next_entry l.entries (l.count - l.counter) l.rest) ≡ items_at next_entry [] l.count l.fn.bytes;
  in_turn : AreInTurn (keys_of l.entries) l.ids;
}
