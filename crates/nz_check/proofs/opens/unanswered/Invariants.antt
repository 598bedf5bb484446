-- What the loops of the function of this folder keep.
use Rattle.std.proofs.Common.{◌≡◌, List, take}
use Rattle.std.specs.List.{flat_map}
use Rattle.nz_machine.specs.declared.journal.Executed.{Executed}
use Rattle.nz_text.specs.Text.{open_in}
use Rattle.nz_check.specs.Noting.{AreNoted}
use Rattle.nz_check.proofs.opens.unanswered.Given as goal

abbrev pub invariant-loop-event : goal.invariant-loop-event
invariant-loop-event l = (H : List Executed) → AreNoted H l.events l.noted → l.ids ≡ flat_map (open_in l.events) (take l.event-index l.events)
