-- What the loops of the function of this folder keep.
use Rattle.std.proofs.Common.{◌≡◌, ◌+◌, [], take, drop}
use Rattle.nz_check.specs.Checked.{first_line, whys, event_why}
use Rattle.nz_check.specs.Noting.{AreNoted}
use Rattle.nz_check.proofs.events.check_events.Given as goal

-- nothing is wrong so far, and the events so far are noted
abbrev pub invariant-loop-event : goal.invariant-loop-event
invariant-loop-event l = record {
  place : l.place ≡ l.event-index;
  noted : AreNoted l.printed.history (take l.event-index l.events) l.noted;
  first : first_line (l.place + 1) (whys (event_why l.printed) (take l.event-index l.events) (drop l.event-index l.events))
      ≡ first_line 1 (whys (event_why l.printed) [] l.events);
}
