-- What the loops of the function of this folder keep.
use Rattle.std.proofs.Common.{◌≡◌, ◌+◌, [], length, take, drop}
use Rattle.nz_check.specs.Checked.{first_line, whys, open_why}
use Rattle.nz_check.proofs.opens.check_opens.Given as goal

-- nothing is wrong so far
abbrev pub invariant-loop-id : goal.invariant-loop-id
invariant-loop-id l = record {
  place : l.place ≡ l.id-index;
  first : first_line (length l.printed.events + 1 + l.place) (whys (open_why l.printed) (take l.id-index l.ids) (drop l.id-index l.ids))
      ≡ first_line (length l.printed.events + 1) (whys (open_why l.printed) [] l.ids);
}
