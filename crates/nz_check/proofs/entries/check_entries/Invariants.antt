-- What the loops of the function of this folder keep.
use Rattle.std.proofs.Common.{◌≡◌, ◌+◌, [], length, take, drop}
use Rattle.nz_store.specs.Sequence.{store_after}
use Rattle.nz_check.specs.Checked.{first_line, whys, at_why, commands_of}
use Rattle.nz_check.proofs.entries.check_entries.Given as goal

-- nothing is wrong so far, and the commands so far are applied
abbrev pub invariant-loop-entry : goal.invariant-loop-entry
invariant-loop-entry l = record {
  place : l.place ≡ l.entry-index;
  store : l.store ≡ store_after (commands_of (take l.entry-index l.history));
  first : first_line (length l.printed.events + length l.printed.unanswered + 1 + l.place)
      (whys (at_why l.printed) (take l.entry-index l.history) (drop l.entry-index l.history))
      ≡ first_line (length l.printed.events + length l.printed.unanswered + 1) (whys (at_why l.printed) [] l.history);
}
