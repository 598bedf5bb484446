-- What the loops of the function of this folder keep.
use Rattle.std.proofs.Common.{◌≡◌, ◌++◌, drop}
use Rattle.std.specs.List.{flat_map}
use Rattle.nz_machine.specs.journals.EventNotes.{events_alone}
use Rattle.nz_text.specs.Text.{open_in, unanswered_in}
use Rattle.nz_text.proofs.unanswered.unanswered_of.Given as goal

-- what was found, and what is left after it
abbrev pub invariant-loop-next : goal.invariant-loop-next
invariant-loop-next l =
    l.ids ++ flat_map (open_in (events_alone l.events)) (events_alone (drop l.next-index l.events)) ≡ unanswered_in (events_alone l.events)
