-- What the loops of the function of this folder keep.
use Rattle.std.proofs.Common.{◌≡◌, ◌++◌, drop}
use Rattle.nz_story.specs.Story.{events_text}
use Rattle.nz_story.proofs.heads.put_events.Given as goal

-- what was written, and what is left after it
abbrev pub invariant-loop-event : goal.invariant-loop-event
invariant-loop-event l = l.out.items ++ events_text (drop l.event-index l.events) ≡ l.fn.out.items ++ events_text l.events
