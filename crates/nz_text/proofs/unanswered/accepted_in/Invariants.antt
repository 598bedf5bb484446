-- What the loops of the function of this folder keep.
use Rattle.std.proofs.Common.{◌≡◌, take}
use Rattle.std.specs.List.{list_any}
use Rattle.std.specs.HashSet.{contains}
use Rattle.nz_base.specs.Key.{id_eq}
use Rattle.nz_base.specs.declared.key.Id.{Id}
use Rattle.nz_machine.specs.journals.EventNotes.{events_alone}
use Rattle.nz_text.specs.Text.{accepts_it}
use Rattle.nz_text.proofs.unanswered.accepted_in.Given as goal

abbrev pub invariant-loop-next : goal.invariant-loop-next
invariant-loop-next l = (id : Id) → contains id_eq l.accepted id ≡ list_any (accepts_it id) (events_alone (take l.next-index l.events))
