-- What the loops of the function of this folder keep.
use Rattle.std.proofs.Common.{◌≡◌, ◌++◌, drop}
use Rattle.std.specs.List.{flat_map}
use Rattle.nz_machine.specs.journals.EventNotes.{events_alone}
use Rattle.nz_text.specs.Text.{event_line}
use Rattle.nz_text.proofs.lines.put_events.Given as goal

-- what was written, and the lines that are left after it
abbrev pub invariant-loop-next : goal.invariant-loop-next
invariant-loop-next l =
    l.out.items ++ flat_map event_line (events_alone (drop l.next-index l.events)) ≡ l.fn.out.items ++ flat_map event_line (events_alone l.events)
